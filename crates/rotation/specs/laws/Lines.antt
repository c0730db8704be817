-- Laws of a list's text, at place i of a walk over the list.
-- Assumes nothing.
use Rattle.std.specs.Prelude.{◌≡◌, List, [], ◌∷◌, ◌++◌, ℕ, ◌+◌, ◌≤◌, ◌<◌, length, drop, get_or}
use Rattle.std.proofs.Common.{sym, ap, ◌∙◌, arith, length-append, drop_of_length-le}
use Rattle.laws.specs.laws.Lists.{drop_at}
use Rattle.text.specs.Over.{over, Put}
use Rattle.text.specs.laws.Over.{over_more, then}
use Rattle.action.specs.Known.{actions}
use Rattle.action.specs.Names.{name_of, text_of}
use Rattle.action.specs.laws.Names.{name_short}
use Rattle.action.specs.declared.texts.Text.TheVariants.{Name}
use Rattle.rotation.specs.Gaps.{newline}
use Rattle.rotation.specs.Lines.{line_of, list_text_of}
use Rattle.rotation.specs.inner.Lines.{name_line_most}

-- ---- one line

pub line_length : (n : ℕ) → length (line_of n) ≡ length (text_of Name n) + 1
unfolding line_of text_of
line_length n = length-append (name_of n) (newline ∷ [])

pub line_short : (n : ℕ) → n < actions → length (line_of n) ≤ name_line_most
unfolding text_of
line_short n h = omega (arith, line_length n, name_short n h)

-- the name, and the newline after it
pub line_put : (n : ℕ) {at r s : ℕ} {out m after : List ℕ} → Put out at (text_of Name n) r m → Put m r (newline ∷ []) s after
    → Put out at (line_of n) s after
unfolding line_of text_of
line_put n p q = then p q

-- ---- the lines of a list

module _ (list : List ℕ) (i : ℕ) (h : i < length list) where
  lines_on : list_text_of (drop i list) ≡ line_of (get_or list i 0) ++ list_text_of (drop (i + 1) list)
  unfolding list_text_of
  lines_on = rw (drop_at list i h)

  pub lines_length : length (list_text_of (drop i list)) ≡ length (line_of (get_or list i 0)) + length (list_text_of (drop (i + 1) list))
  lines_length = ap length lines_on ∙ length-append (line_of (get_or list i 0)) _

  -- a line is put, and what is left goes after it
  pub lines_turn : {out : List ℕ} {at r : ℕ} {after : List ℕ} → Put out at (line_of (get_or list i 0)) r after
      → over after r (list_text_of (drop (i + 1) list)) ≡ over out at (list_text_of (drop i list))
  lines_turn {out} {at} p = rw (p.same, p.next) (over_more (line_of (get_or list i 0)) _ out at ∙ ap (over out at) (sym lines_on))

pub lines_end : (list : List ℕ) {i : ℕ} → length list ≤ i → list_text_of (drop i list) ≡ []
unfolding list_text_of
lines_end list h = rw (drop_of_length-le list h)
