-- Texts in one run, and where each starts: text n is the part of the run from start n to start n + 1.
-- Assumes nothing.
use mathlib.Core.Path.{◌≡◌}
use mathlib.Core.Bool.{Bool, ◌&&◌}
use mathlib.Core.List.{List, [], ◌∷◌, ◌++◌}
use Prim.Native.Nat.{ℕ, ◌+◌, ◌-◌, ◌≤◌, ◌<◌}
use Prim.Native.String.{String}
use lib.Dec.{T, leb, leb→le}
use lib.ListN.{length, take, drop, get_or}
use Rattle.laws.specs.laws.Tests.{and_left, and_right}
use Rattle.laws.specs.laws.Same.{same→eq, below_at}
use Rattle.text.specs.Bytes.{bytes}
use Rattle.action.specs.Table.{action_of}
use Rattle.action.specs.Known.{actions}
use Rattle.action.specs.Names.{name_of, label_of}
use Rattle.action.specs.inner.Texts.{names, labels}
use Rattle.laws.specs.Lists.{same}

unfoldable pub run : List String → List ℕ
run [] = []
run (s ∷ rest) = bytes s ++ run rest

unfoldable pub starts : ℕ → List String → List ℕ
starts at [] = at ∷ []
starts at (s ∷ rest) = at ∷ starts (at + length (bytes s)) rest

module _ (texts : List String) where
  abbrev pub start : ℕ → ℕ
  unfolding starts
  start n = get_or (starts 0 texts) n 0

  -- what stands in the run there
  abbrev pub part_of : ℕ → List ℕ
  part_of n = take (start (n + 1) - start n) (drop (start n) (run texts))

pub record Part (texts : List String) (text_of : ℕ → List ℕ) (n : ℕ) : Type 0 where
  pub order : start texts n ≤ start texts (n + 1)
  pub within : start texts (n + 1) ≤ length (run texts)
  pub part : part_of texts n ≡ text_of n

module _ (texts : List String) (text_of : ℕ → List ℕ) where
  -- the test of it, which antt computes
  abbrev right : ℕ → Bool
  right n = leb (start texts n) (start texts (n + 1)) && (leb (start texts (n + 1)) (length (run texts)) && same (part_of texts n) (text_of n))

  from_test : (n : ℕ) → T (right n) → Part texts text_of n
  from_test n t =
      let a = and_right (leb (start texts n) (start texts (n + 1))) _ t in
      record {
        order = leb→le _ _ (and_left (leb (start texts n) (start texts (n + 1))) _ t);
        within = leb→le _ _ (and_left (leb (start texts (n + 1)) (length (run texts))) _ a);
        part = same→eq _ _ (and_right (leb (start texts (n + 1)) (length (run texts))) _ a);
      }

pub name_part : (n : ℕ) → n < actions → Part names name_of n
unfolding run starts names action_of name_of
name_part n h = from_test names name_of n (below_at (right names name_of) actions n h tt)

pub label_part : (n : ℕ) → n < actions → Part labels label_of n
unfolding run starts labels action_of label_of
label_part n h = from_test labels label_of n (below_at (right labels label_of) actions n h tt)
