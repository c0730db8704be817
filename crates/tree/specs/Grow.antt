-- Document 01, Tree, and "what each lent byte or record then holds, refusals too": what the entries over a growing tree answer, a new tree, insertion, and a
-- record by its number.
-- Assumes nothing.
use Rattle.std.specs.Prelude.{◌≡◌, ℕ, ◌+◌, List, Result, Ok}
use Rattle.refusal.specs.declared.Refusal.{Refusal}
use Rattle.refusal.specs.Judge.{Test, judged, Kind, Says, answering}
use Rattle.tree.specs.declared.node.Node.{Node}
use Rattle.tree.specs.Tree.{node_at, planted_of, inserted_of}
use Rattle.tree.specs.Refusals.{new_count, new_tests, record_tests, insert_tests}

-- ---- the entries: the answer, and what the records hold then, which is what they held where a test fails

pub record Changes {A : Type 0} (kind : Kind A) (tests : List Test) (answer : A) (nodes changed : List Node) (r : A) (after : List Node) : Type 0 where
  pub says : Says kind tests answer r
  pub records : after ≡ judged (λ x. nodes) changed tests

abbrev pub Plants : List Node → ℕ → Result ℕ Refusal → List Node → Type 0
Plants nodes unused r after = Changes answering (new_tests nodes unused) (Ok new_count) nodes (planted_of nodes unused) r after

abbrev pub Inserts : List Node → ℕ → ℕ → ℕ → ℕ → Result (ℕ × ℕ) Refusal → List Node → Type 0
Inserts nodes count parent action unused r after =
    Changes answering (insert_tests nodes count parent action unused) (Ok (count, count + 1)) nodes (inserted_of nodes count parent action unused) r after

abbrev pub Looks : List Node → ℕ → ℕ → Result Node Refusal → Type 0
Looks nodes count k r = Says answering (record_tests nodes count k) (Ok (node_at nodes k)) r
