-- `rotation::words::Words::new` begins with the text's first word.
-- Assumes nothing.
use Rattle.std.proofs.Common.{refl}
use Rattle.rotation.specs.Words.{words_of}
use Rattle.rotation.proofs.words.Words.new.Goals as goal

pub returns : goal.returns
unfolding words_of
returns c = refl
