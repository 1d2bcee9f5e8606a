-- The records of a run as a list, and what adding and removing do to them.
--   empty_run  the run with no record
--   records    the records of a run, from the first to the last
--   Added      a record was added at the end
--   Filled     each place holds a record, and nothing changed
--   Removed    the record at a place was removed, and later ones moved down by one
--   Missing    no record is at the place, and nothing changed
--   Adding     what adding does, by its answer
--   Removing   what removing does, by its answer
--   Reading    the record at a place, or none past the last
use Rattle.std.specs.Prelude.{◌≡◌, ℕ, ◌+◌, ◌<◌, ◌≤◌, List, [], ◌∷◌, ◌++◌, length, take, drop, Some, None, Ok, Err, Option, Result, slice_index_or}
use Rattle.std.specs.Borrow.{Bor}
use Rattle.std.specs.List.{remove}
use Rattle.run.specs.declared.Run.{Run}
use Rattle.run.specs.declared.Full.{Full}

abbrev pub empty_run : Run
empty_run = record { len = 0 }

-- the first places, as many as the run counts; all of them where there are fewer
abbrev pub records : {X : Type 0} → Run → List X → List X
records run places = take run.len places

-- x is the last record now, those before it are as they were, and no place after it was written
pub record Added {X : Type 0} (x : X) (run run' : Run) (places places' : List X) : Type 0 where
  pub room : length (records run places) < length places
  pub now_held : records run' places' ≡ records run places ++ x ∷ []
  pub rest : drop run'.len places' ≡ drop run'.len places
  pub counted : run'.len ≡ length (records run places) + 1

-- all places hold records, and nothing changed
pub record Filled {X : Type 0} (run run' : Run) (places places' : List X) : Type 0 where
  pub no_room : records run places ≡ places
  pub same_run : run' ≡ run
  pub same_places : places' ≡ places

-- x was the record at the place `at`; the others are held in their order, and no place after them was written
pub record Removed {X : Type 0} (at : ℕ) (x : X) (run run' : Run) (places places' : List X) : Type 0 where
  pub inside : at < length (records run places)
  pub was_there : (d : X) → x ≡ slice_index_or (records run places) at d
  pub now_held : records run' places' ≡ remove (records run places) at
  pub rest : drop run'.len places' ≡ drop run'.len places
  pub counted : run'.len + 1 ≡ length (records run places)

-- there are not so many records, and nothing changed
pub record Missing {X : Type 0} (at : ℕ) (run run' : Run) (places places' : List X) : Type 0 where
  pub past : length (records run places) ≤ at
  pub same_run : run' ≡ run
  pub same_places : places' ≡ places

abbrev pub Adding : {X : Type 0} → Result (Unit {0}) Full → X → Run → Run → List X → List X → Type 0
Adding (Ok done) x run run' places places' = Added x run run' places places'
Adding (Err full) x run run' places places' = Filled run run' places places'

abbrev pub Removing : {X : Type 0} → Option X → ℕ → Run → Run → List X → List X → Type 0
Removing (Some x) at run run' places places' = Removed at x run run' places places'
Removing None at run run' places places' = Missing at run run' places places'

abbrev pub Reading : {X : Type 0} → Option (Bor X) → ℕ → List X → Type 0
Reading {X} (Some x) at held = (at < length held) × ((d : X) → x.now ≡ slice_index_or held at d)
Reading None at held = length held ≤ at
