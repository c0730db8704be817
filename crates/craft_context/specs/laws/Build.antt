-- What the tests of the numbers to build from have shown where they pass, what each factor rests on; and what they tell where they don't.
-- Assumes nothing.
use Rattle.std.proofs.Common.{sym, leb-true, lit≤}
use Rattle.std.specs.Prelude.{ℕ, ◌≤◌, [], ◌++◌, nat_le, refl}
use Rattle.laws.specs.laws.Tests.{both}
use Rattle.refusal.specs.Demands.{TellsFirst}
use Rattle.refusal.specs.Judge.{answering}
use Rattle.refusal.specs.laws.Limits.{all_inside, tells_first}
use Rattle.action.specs.Limits.{factor_most}
use Rattle.action_set.specs.Sets.{SetIn}
use Rattle.action_set.specs.laws.Sets.{set_inside}
use Rattle.craft_context.specs.Limits.{div_most, player_limits, recipe_limits}
use Rattle.craft_context.specs.Factor.{progress_plus, quality_plus}
use Rattle.craft_context.specs.Pool.{in_pool}
use Rattle.craft_context.specs.Build.{is_scaled, built_of, builder_limits, New}
use Rattle.craft_context.specs.inner.Factor.{Bounded}
use Rattle.craft_context.specs.inner.Build.{Buildable}
use Rattle.craft_context.specs.laws.Factor.{factor_most_lem}
use Rattle.craft_context.specs.declared.sheet.Player.{Player}
use Rattle.craft_context.specs.declared.sheet.Recipe.{Recipe}
use Rattle.craft_context.specs.declared.sheet.CraftOptions.{CraftOptions}

module _ (player : Player) (recipe : Recipe) {plus : ℕ} (small : plus ≤ quality_plus) where
  pub build_bounded : Buildable player recipe
      → Bounded player.craftsmanship recipe.progress_div plus recipe.progress_mod
      × Bounded player.control recipe.quality_div plus recipe.quality_mod
  build_bounded p =
      let inside = all_inside (player_limits player ++ recipe_limits recipe) (sym p) in
      let progress = both (nat_le 1 recipe.progress_div) (nat_le recipe.progress_div div_most) (inside 10) in
      let quality = both (nat_le 1 recipe.quality_div) (nat_le recipe.quality_div div_most) (inside 12) in (
        record {
          strong = leb-true _ _ (inside 1);
          divided = leb-true _ _ progress.0;
          divisor_most = leb-true _ _ progress.1;
          raised = small;
          modified = leb-true _ _ (inside 11);
        },
        record {
          strong = leb-true _ _ (inside 2);
          divided = leb-true _ _ quality.0;
          divisor_most = leb-true _ _ quality.1;
          raised = small;
          modified = leb-true _ _ (inside 13);
        },
      )

-- a refusal tells the first field outside, of what a context is built from and of the built one
pub builder_first : (player : Player) (recipe : Recipe) (options : CraftOptions) → TellsFirst answering.told (builder_limits player recipe options) (New player recipe options)
builder_first player recipe options = tells_first [] (builder_limits player recipe options) [] refl refl

-- the built context's factors and pool are always inside: no refusal tells their places
pub built_inside : (player : Player) (recipe : Recipe) (options : CraftOptions) → Buildable player recipe
    → (let c = built_of player recipe options in (c.base_progress_factor ≤ factor_most) × (c.base_quality_factor ≤ factor_most) × SetIn c.action_pool.0)
unfolding built_of
built_inside player recipe options p =
    let scaled = is_scaled player recipe in (
      factor_most_lem (build_bounded player recipe {plus = progress_plus} (lit≤ tt) p).0 scaled,
      factor_most_lem (build_bounded player recipe {plus = quality_plus} (lit≤ tt) p).1 scaled,
      set_inside (in_pool player recipe),
    )
