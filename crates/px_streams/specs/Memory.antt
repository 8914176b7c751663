-- Sources and sinks over memory, as contracts see them.
use Rattle.std.specs.Prelude.{ℕ, ◌-◌, ◌==◌, nat_lt, List, ◌++◌, length, drop, Bool, ◌&&◌, ◌||◌}
use Rattle.std.specs.List.{list_any}
use Rattle.px_streams.specs.Causes.{next_count}

-- the bytes that are left, the number of the next read, the reads that fail, and how many have failed
pub record Readable : Type 0 where
  pub left : List ℕ
  pub next : ℕ
  pub failing : List ℕ
  pub faults : ℕ

-- the bytes that are held, the most that there is room for, the number of the next write, the writes that fail, and how many have failed
pub record Writable : Type 0 where
  pub contents : List ℕ
  pub room : ℕ
  pub next : ℕ
  pub failing : List ℕ
  pub faults : ℕ

-- whether a number is among those that fail
abbrev pub is_failing : List ℕ → ℕ → Bool
is_failing failing number = list_any (λ n. n == number) failing

-- whether the next read fails
abbrev pub read_fails : Readable → Bool
read_fails s = is_failing s.failing s.next

-- after a read that took so many bytes
abbrev pub after_read : Readable → ℕ → Readable
after_read s count = record s { left = drop count s.left; next = next_count s.next }

-- after a read that failed
abbrev pub after_failed_read : Readable → Readable
after_failed_read s = record s { next = next_count s.next; faults = next_count s.faults }

-- how many more bytes fit
abbrev pub room_left : Writable → ℕ
room_left s = s.room - length s.contents

-- whether the next write fails: it is listed, or nothing fits of a piece that has so many bytes
abbrev pub write_fails : Writable → ℕ → Bool
write_fails s size = (room_left s == 0 && nat_lt 0 size) || is_failing s.failing s.next

-- after a write that put these bytes
abbrev pub after_write : Writable → List ℕ → Writable
after_write s bytes = record s { contents = s.contents ++ bytes; next = next_count s.next }

-- after a write that failed
abbrev pub after_failed_write : Writable → Writable
after_failed_write s = record s { next = next_count s.next; faults = next_count s.faults }
