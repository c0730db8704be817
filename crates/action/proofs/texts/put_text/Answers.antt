-- `action::texts::put_text` meets its contract: each kind of text is put by its own function.
-- Assumes nothing.
use mathlib.Core.Path.{◌≡◌, sym, ap, subst}
use mathlib.Core.List.{List}
use Prim.Native.Nat.{ℕ, ◌+◌, ◌≤◌, ◌<◌}
use lib.ListN.{length}
use Rattle.text.specs.Over.{Put}
use Rattle.text.specs.laws.Over.{put_as}
use Rattle.action.specs.Known.{actions}
use Rattle.action.specs.Names.{text_of}
use Rattle.action.specs.declared.texts.Text.{Text}
use Rattle.action.proofs.texts.put_text.Goals as goal

module _ {which is : Text} (e : which ≡ is) (n at : ℕ) where
  -- the room that is asked, and the text that is put, of the kind that it is
  asked : {room : ℕ} → (n < actions) × (at + length (text_of which n) ≤ room) → (n < actions) × (at + length (text_of is n) ≤ room)
  asked {room} p = subst (λ (t : Text). (n < actions) × (at + length (text_of t n) ≤ room)) e p

  put : {out after : List ℕ} {r : ℕ} → Put out at (text_of is n) r after → Put out at (text_of which n) r after
  put p = put_as (sym (ap (λ (t : Text). text_of t n) e)) p

pub put_name-requires : goal.put_name-requires
unfolding text_of
put_name-requires c = asked c.in-Name.is _ _ c.requires

pub put_label-requires : goal.put_label-requires
unfolding text_of
put_label-requires c = asked c.in-Label.is _ _ c.requires

pub put_macro_text-requires : goal.put_macro_text-requires
unfolding text_of
put_macro_text-requires c = asked c.in-Macro.is _ _ c.requires

pub returns-in-Name : goal.returns-in-Name
unfolding text_of
returns-in-Name c = put c.in-Name.is _ _ c.put_name.ensures

pub returns-in-Label : goal.returns-in-Label
unfolding text_of
returns-in-Label c = put c.in-Label.is _ _ c.put_label.ensures

pub returns-in-Macro : goal.returns-in-Macro
unfolding text_of
returns-in-Macro c = put c.in-Macro.is _ _ c.put_macro_text.ensures
