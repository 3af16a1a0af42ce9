pub mod Decimal
pub mod Grows
pub mod Printed
pub mod Puts
pub mod Lines
