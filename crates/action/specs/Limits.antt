-- Document 01, 'Limits', and document 02's bounds of a row: those that an action's numbers rest on.
-- Assumes nothing.
use Rattle.std.specs.Prelude.{ℕ, ◌-◌}

-- ---- of a row of the table, in any edition: document 02's bounds

abbrev pub progress_most : ℕ
progress_most = 500

abbrev pub quality_most : ℕ
quality_most = 300

abbrev pub wear_most : ℕ
wear_most = 20

abbrev pub price_most : ℕ
price_most = 1000

-- the price of an action that continues its combo
abbrev pub discount_price : ℕ
discount_price = 18

-- ---- of a context and a state: document 01's limits

-- progress and quality targets, starting quality and points
abbrev pub target_most : ℕ
target_most = 1000000

abbrev pub factor_most : ℕ
factor_most = 200070

abbrev pub quiet_most : ℕ
quiet_most = 10

-- progress and quality of a state
abbrev pub amount_most : ℕ
amount_most = 16777216

-- so this is what one action may add to either, below its target
abbrev pub gain_most : ℕ
gain_most = amount_most - target_most
