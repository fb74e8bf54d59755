-- What is handed over of an input that was read. Assumes nothing.
use Rattle.std.specs.Prelude.{ℕ, ◌≡◌, ◌<◌, ◌≤◌, List, Option, length}
use Rattle.std.specs.Io.KnownBytes.{IsAtEnd}
use Rattle.programs.specs.declared.Input.{Input}
use Rattle.programs.specs.declared.Input.TheVariants.{Whole, Full}

-- n bytes of the room, of which `left` is left to the reader: with room left the reading did not stop for want of it, but at the input's end
pub record ReadWhole (n : ℕ) (room : List ℕ) (left : Option (List ℕ)) : Type 0 where
  pub fits : n ≤ length room
  pub whole : n < length room → IsAtEnd left

-- how many bytes were read
abbrev pub size_of : Input → ℕ
size_of (Whole n) = n
size_of (Full n) = n

-- the whole input, or more than 65,536 bytes of it: with 65,536 or fewer the reading did not stop for want of room
pub record WholeOrMore (x : Input) : Type 0 where
  pub fits : size_of x ≤ 65537
  pub whole : size_of x ≤ 65536 → x ≡ Whole (size_of x)
  pub more : 65536 < size_of x → x ≡ Full (size_of x)
