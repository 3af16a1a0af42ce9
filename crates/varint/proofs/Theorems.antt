-- The laws of `specs/Laws.antt` hold.
-- Assumes nothing.
use Prim.Native.Nat.{◌+◌}
use lib.ListN.{length, drop}
use lib.Seq.{sets}
use Rattle.varint.specs.Number.{encode}
use Rattle.varint.specs.Laws.{ReadsBack, WrittenIsRead, WritesBack, OneForm, AllReadBack, AllWrittenBack, WrittenAreBytes}
use Rattle.varint.proofs.Reading.{read_next, read_encode, encode_read, encode_next, one_form}
use Rattle.varint.proofs.Sequence.{scan_encode_all, encode_all_scan, scan_stop, encode_all_bytes}
use Rattle.varint.proofs.WriteTurns.{drop_sets, bytes_room}

pub reads_back : ReadsBack
reads_back = read_encode

pub written_is_read : WrittenIsRead
written_is_read g l n out at h k m room =
    rw (bytes_room n out at room)
    (read_encode g l n (sets out at (encode n)) at (drop (at + length (encode n)) out) h k m (drop_sets (encode n) out at room))

pub writes_back : WritesBack
writes_back g l s at v next t e = (encode_read g l s at v next t e, encode_next g l s at v next t e, (read_next g l s at v next e).2)

pub one_of_each : OneForm
one_of_each = one_form

pub all_read_back : AllReadBack
all_read_back = scan_encode_all

pub all_written_back : AllWrittenBack
all_written_back g l s at t = (encode_all_scan g l s at t, scan_stop g l s at t)

pub written_are_bytes : WrittenAreBytes
written_are_bytes = encode_all_bytes
