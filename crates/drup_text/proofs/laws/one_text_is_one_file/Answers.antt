use Rattle.drup_text.proofs.OneFile.{one_text_is_one_file}
use Rattle.drup_text.proofs.laws.one_text_is_one_file.Goals as goal

pub returns : goal.returns
returns c = one_text_is_one_file
