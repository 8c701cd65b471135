-- Sources and sinks in memory that fail at chosen calls.
use Rattle.std.specs.Prelude.{ℕ, ◌+◌, ◌==◌, Bool, if◌then◌else◌, List}
use Rattle.std.specs.List.{list_any}
use Rattle.geo_io.specs.Faults.{one_more}

-- the calls of an object: the numbers, from 1, of those that fail, the most bytes that one of them moves, how many were
-- made and how many of them failed; both counts stay at 2^64 − 1 once they are there
pub record Calls : Type 0 where
  pub failing : List ℕ
  pub most : ℕ
  pub made : ℕ
  pub faults : ℕ

-- a source in memory: the bytes that are left
pub record MemoryInput : Type 0 where
  pub left : List ℕ
  pub calls : Calls

-- a sink in memory: the bytes that it holds
pub record MemoryOutput : Type 0 where
  pub held : List ℕ
  pub calls : Calls

-- no call was made yet
abbrev pub first_calls : List ℕ → ℕ → Calls
first_calls failing most = record { failing = failing; most = most; made = 0; faults = 0 }

-- the next call fails: its number stands among the failing ones
abbrev pub next_fails : Calls → Bool
next_fails calls = list_any (λ number. number == calls.made + 1) calls.failing

-- one more call was made, and is counted as a fault where it failed
abbrev pub after_next : Calls → Calls
after_next calls = record {
  failing = calls.failing;
  most = calls.most;
  made = one_more calls.made;
  faults = if next_fails calls then one_more calls.faults else calls.faults;
}
