-- A reader further on.
-- Assumes nothing.
use Rattle.std.specs.Prelude.{ℕ, ◌+◌}
use Rattle.reader.specs.declared.Reader.{Reader}

-- a reader this many bytes on
abbrev pub past : ℕ → Reader → Reader
past n r = record { src = r.src; at = r.at + n }
