-- The headers of `specs/Table.antt`: each computes to its bytes, and the bytes to it. Assumes nothing.
use mathlib.Core.Path.{refl}
use Rattle.header.specs.Header.{header_bytes, header_of}
use Rattle.header.specs.Table.{HeaderTable}

pub header_table : HeaderTable
unfolding header_bytes header_of
header_table = record { primary_bytes = refl; reply_bytes = refl; unlike_bytes_lem = refl; unlike_read = refl }
