use Rattle.algebra_core.proofs.Agreements.{lawful_agrees, after_agrees, refused_agrees, refused_in_range_agrees, closes_agrees, refused_close_agrees, refused_close_in_range_agrees}
use Rattle.algebra_core.proofs.ledger_laws.agreement_is_kept.Goals as goal

pub returns : goal.returns
returns c = record {
  lawful = lawful_agrees;
  after = after_agrees;
  refused = refused_agrees;
  refused_in_range = refused_in_range_agrees;
  closes = closes_agrees;
  refused_close = refused_close_agrees;
  refused_close_in_range = refused_close_in_range_agrees;
}
