-- `search::options::ln_at` meets its contract: the fraction of a count can be dropped.
-- Assumes nothing.
use Rattle.search.specs.laws.Options.{count_cuts}
use Rattle.search.proofs.options.ln_at.Goals as goal

pub truncating_f32_to_u64-v-requires : goal.truncating_f32_to_u64-v-requires
truncating_f32_to_u64-v-requires c = let cuts = count_cuts _ c.requires.0 in record { lower_bound = cuts.0; upper_bound = cuts.1 }
