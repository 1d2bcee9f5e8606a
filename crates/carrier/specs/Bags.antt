-- Bags of blocks: what waits for a station, as a list whose order means nothing.
--   Block       a block, as the list of its bytes
--   Bags        for each station number, its bag
--   OneMore     one bag is another with one more copy of a block
--   SameBag     two bags have the same blocks, each as many times
--   CountsOnce  one more copy of a block counts once, whatever is counted
use Rattle.std.specs.Prelude.{◌≡◌, ℕ, ◌+◌, Bool, if◌then◌else◌, List, ◌∷◌, count_by}

abbrev pub Block : Type 0
Block = List ℕ

abbrev pub Bags : Type 0
Bags = ℕ → List Block

-- the first list is the second with x put in once more, at some place
pub data OneMore {X : Type 0} (x : X) : List X → List X → Type 0 where
  this : {xs : List X} → OneMore x (x ∷ xs) xs
  later : {y : X} {xs ys : List X} → OneMore x xs ys → OneMore x (y ∷ xs) (y ∷ ys)

-- whatever is counted, there is as much of it in both
abbrev pub SameBag : {X : Type 0} → List X → List X → Type 0
SameBag {X} xs ys = (test : X → Bool) → count_by test xs ≡ count_by test ys

-- of what a test picks out, a bag with one more copy of a block has one more where the test picks out the block, and else as many
abbrev pub CountsOnce : Type 0
CountsOnce = (block : Block) (more fewer : List Block) → OneMore block more fewer → (test : Block → Bool) → count_by test more ≡ (if test block then 1 else 0) + count_by test fewer
