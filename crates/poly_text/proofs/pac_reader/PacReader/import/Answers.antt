use Rattle.algebra_core.specs.Reading.{import_at}
use Rattle.poly_terms.specs.Laws.{extends_itself}
use Rattle.poly_text.proofs.FormSteps.{form_there}
use Rattle.poly_text.proofs.LineSteps.{import_in_second, none_in_first}
use Rattle.poly_text.proofs.pac_reader.PacReader.import.Goals as goal

pub returns-then-self-le1 : goal.returns-then-self-le1
returns-then-self-le1 c = record {
  ok = λ n g. tt;
  err = λ n. none_in_first c.args.self.now.version n c.args.scanner.now c.if-self-le1.true;
  extends = extends_itself c.args.terms.now;
}

pub returns : goal.returns
returns c =
    form_there import_at c.numbered_import.result (λ n. import_in_second c.args.self.now.version n c.args.scanner.now c.if-self-le1.false) c.numbered_import.ensures
