use Rattle.pac_writer.proofs.LawfulFile.{written_certificates_are_lawful as law}
use Rattle.pac_writer.proofs.laws.written_certificates_are_lawful.Goals as goal

pub returns : goal.returns
returns c = law
