-- For the contract of the inner function `line_len`: how much room the code keeps for a line.
-- Assumes nothing.
use Rattle.std.specs.Prelude.{ℕ, ◌+◌}
use Rattle.action.specs.inner.Texts.{longest}

-- no line is longer
abbrev pub name_line_most : ℕ
name_line_most = longest + 1
