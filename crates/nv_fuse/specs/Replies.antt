-- The bytes of replies: each field's place and width in bytes, and what is written there.
use Rattle.std.specs.Prelude.{ℕ, ◌+◌, ◌-◌, ◌^◌, ◌%◌, List, [], ◌∷◌, ◌++◌, length, replicate}
use Rattle.nv_fuse.specs.Errors.{number_of}
use Rattle.nv_fuse.specs.Rows.{Row, bytes_of, row}
use Rattle.nv_fuse.specs.declared.attributes.Attributes.{Attributes}
use Rattle.nv_fuse.specs.declared.attributes.Entry.{Entry}
use Rattle.nv_fuse.specs.declared.directory.Listed.{Listed}
use Rattle.nv_fuse.specs.declared.directory.ListedKind.{ListedKind}
use Rattle.nv_fuse.specs.declared.directory.ListedKind.TheVariants.{Directory, File}
use Rattle.nv_fuse.specs.declared.reply.Agreement.{Agreement}
use Rattle.nv_fuse.specs.declared.reply.OpenFile.{OpenFile}
use Rattle.nv_fuse.specs.declared.reply.Reply.{Reply}
use Rattle.nv_fuse.specs.declared.reply.Reply.TheVariants.{Agreed, Contents, Created, Done, Found, Node, Opened, Refused, Space, Written}
use Rattle.nv_fuse.specs.declared.reply.Statistics.{Statistics}

-- a node's attributes, 88 bytes from a place on
abbrev pub attribute_rows : ℕ → Attributes → List Row
attribute_rows at x =
    row at 8 x.inode
    ∷ row (at + 8) 8 x.size
    ∷ row (at + 16) 8 x.blocks
    ∷ row (at + 24) 8 x.accessed
    ∷ row (at + 32) 8 x.modified
    ∷ row (at + 40) 8 x.changed
    ∷ row (at + 48) 4 x.accessed_nanoseconds
    ∷ row (at + 52) 4 x.modified_nanoseconds
    ∷ row (at + 56) 4 x.changed_nanoseconds
    ∷ row (at + 60) 4 x.mode
    ∷ row (at + 64) 4 x.links
    ∷ row (at + 68) 4 x.user
    ∷ row (at + 72) 4 x.group
    ∷ row (at + 76) 4 x.device
    ∷ row (at + 80) 4 x.block_size
    ∷ row (at + 84) 4 0
    ∷ []

-- a name's node, 128 bytes
abbrev pub entry_rows : Entry → List Row
entry_rows x =
    row 0 8 x.node
    ∷ row 8 8 x.generation
    ∷ row 16 8 x.name_valid
    ∷ row 24 8 x.attributes_valid
    ∷ row 32 4 x.name_valid_nanoseconds
    ∷ row 36 4 x.attributes_valid_nanoseconds
    ∷ attribute_rows 40 x.attributes

-- an open file, 16 bytes from a place on
abbrev pub open_rows : ℕ → OpenFile → List Row
open_rows at x = row at 8 x.file ∷ row (at + 8) 4 x.flags ∷ row (at + 12) 4 0 ∷ []

-- what the first reply agrees on, 64 bytes
abbrev pub agreement_rows : Agreement → List Row
agreement_rows x =
    row 0 4 x.major
    ∷ row 4 4 x.minor
    ∷ row 8 4 x.max_readahead
    ∷ row 12 4 x.flags
    ∷ row 16 2 x.max_background
    ∷ row 18 2 x.congestion_threshold
    ∷ row 20 4 x.max_write
    ∷ row 24 4 x.time_granularity
    ∷ row 28 2 x.max_pages
    ∷ row 30 2 x.map_alignment
    ∷ row 32 8 0
    ∷ row 40 8 0
    ∷ row 48 8 0
    ∷ row 56 8 0
    ∷ []

-- blocks and inodes, 80 bytes
abbrev pub statistics_rows : Statistics → List Row
statistics_rows x =
    row 0 8 x.blocks
    ∷ row 8 8 x.free_blocks
    ∷ row 16 8 x.available_blocks
    ∷ row 24 8 x.inodes
    ∷ row 32 8 x.free_inodes
    ∷ row 40 4 x.block_size
    ∷ row 44 4 x.name_length
    ∷ row 48 4 x.fragment_size
    ∷ row 52 4 0
    ∷ row 56 8 0
    ∷ row 64 8 0
    ∷ row 72 8 0
    ∷ []

-- the fields of a reply, by their places behind its header
abbrev pub rows_of : Reply → List Row
rows_of (Refused error) = []
rows_of Done = []
rows_of (Agreed x) = agreement_rows x
rows_of (Found entry) = entry_rows entry
rows_of (Created entry opened) = entry_rows entry ++ open_rows 128 opened
rows_of (Node valid valid_nanoseconds attributes) =
    row 0 8 valid ∷ row 8 4 valid_nanoseconds ∷ row 12 4 0 ∷ attribute_rows 16 attributes
rows_of (Opened opened) = open_rows 0 opened
rows_of (Written size) = row 0 4 size ∷ row 4 4 0 ∷ []
rows_of (Space x) = statistics_rows x
rows_of (Contents bytes) = []

-- what stands behind the fields of a reply
abbrev pub contents_of : Reply → List ℕ
contents_of (Contents bytes) = bytes.now
contents_of x = []

-- an error is told as a negative number, in two's complement of four bytes; 0 is none
abbrev pub error_of : Reply → ℕ
error_of (Refused error) = 2 ^ 32 - number_of error
error_of x = 0

-- how many bytes a reply has, with its header
abbrev pub reply_length : Reply → ℕ
reply_length x = 16 + length (bytes_of (rows_of x)) + length (contents_of x)

-- the 16 bytes that a reply begins with
abbrev pub header_rows : ℕ → Reply → List Row
header_rows unique x = row 0 4 (reply_length x) ∷ row 4 4 (error_of x) ∷ row 8 8 unique ∷ []

-- the bytes of a reply to the request with this number
abbrev pub reply_bytes : ℕ → Reply → List ℕ
reply_bytes unique x = bytes_of (header_rows unique x) ++ (bytes_of (rows_of x) ++ contents_of x)

-- the number of a kind: a directory's or a file's
abbrev pub kind_number : ListedKind → ℕ
kind_number Directory = 4
kind_number File = 8

-- the 24 bytes before a listed name
abbrev pub listed_rows : Listed → List Row
listed_rows x =
    row 0 8 x.inode ∷ row 8 8 x.offset ∷ row 16 4 (length x.name.now) ∷ row 20 4 (kind_number x.kind) ∷ []

-- how many bytes fill up this many to a multiple of eight
abbrev pub padding : ℕ → ℕ
padding count = (8 - count % 8) % 8

-- the bytes of a listed name: its fields, the name, and zero bytes up to a multiple of eight
abbrev pub listed_bytes : Listed → List ℕ
listed_bytes x = bytes_of (listed_rows x) ++ (x.name.now ++ replicate (padding (length x.name.now)) 0)
