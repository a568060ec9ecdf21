use Rattle.std.proofs.Common.{◌≡◌, ◌∙◌, None, Ok, inl, subst, sym, ⊎_elim}
use Rattle.mv_text.specs.CertificateFiles.{FileState}
use Rattle.ripple_graft.specs.HeaderBlocks.{IsCutOf}
use Rattle.drup_text.specs.HeaderSteps.{ReadsHeaderPart, blocks_version_part, cut_part}
use Rattle.drup_text.proofs.VersionSteps.{fit_cut, fit_two, refused_cut, version_block, version_cut, version_two}
use Rattle.drup_text.proofs.clause_file.any_blocks.Goals as goal

pub returns-then-version-eq2-clause-blocks : goal.returns-then-version-eq2-clause-blocks
returns-then-version-eq2-clause-blocks g c = version_two c.args.graph.now c.args.file.now.version c.listed_blocks.result (sym c.version.ensures ∙ c.if-version-eq2.true) c.listed_blocks.ensures.blocks

pub returns-then-version-eq2-clause-fits : goal.returns-then-version-eq2-clause-fits
returns-then-version-eq2-clause-fits g c = fit_two c.args.graph.now c.args.file.now.version c.listed_blocks.result (sym c.version.ensures ∙ c.if-version-eq2.true) c.listed_blocks.ensures.fits

pub returns-in-Ok-None-clause-blocks : goal.returns-in-Ok-None-clause-blocks
returns-in-Ok-None-clause-blocks g c =
    let one : c.args.file.now.version ≡ 1 = ⊎_elim (λ a. a) (λ b. absurd (c.if-version-eq2.false (c.version.ensures ∙ b))) c.requires.version in
    version_cut c.args.graph.now c.args.file.now.version None c.new.result one c.new.ensures.items
    (subst (λ o. ReadsHeaderPart (cut_part c.args.graph.now) c.args.file.now c.cut.new.file (g.D.Desk.seen c.args.desk.now) (g.D.Desk.seen c.cut.new.desk) (Ok o)) c.in-Ok-None.field-0-is c.in-Ok-None.ensures.cut)

pub returns-in-Ok-None-clause-fits : goal.returns-in-Ok-None-clause-fits
returns-in-Ok-None-clause-fits g c =
    let one : c.args.file.now.version ≡ 1 = ⊎_elim (λ a. a) (λ b. absurd (c.if-version-eq2.false (c.version.ensures ∙ b))) c.requires.version in
    inl (one, (None, c.new.ensures.items, tt))

pub one_block-requires : goal.one_block-requires
one_block-requires g c = subst (IsCutOf c.args.graph.now) c.in-Ok-Some.field-0-is c.in-Ok-Some.ensures.fits

pub returns-in-Ok-Some-clause-blocks : goal.returns-in-Ok-Some-clause-blocks
returns-in-Ok-Some-clause-blocks g c =
    let version = c.args.file.now.version in
    let before = g.D.Desk.seen c.args.desk.now in
    let now = g.D.Desk.seen c.cut.new.desk in
    let one : version ≡ 1 = ⊎_elim (λ a. a) (λ b. absurd (c.if-version-eq2.false (c.version.ensures ∙ b))) c.requires.version in
    rw (c.settle.ensures.read)
    (subst (λ (f : FileState). ReadsHeaderPart (blocks_version_part c.args.graph.now version) c.args.file.now f before now c.one_block.result) (sym c.settle.ensures.settled)
    (version_block c.args.graph.now version c.in-Ok-Some.cut c.one_block.result one c.one_block.ensures.ok c.one_block.ensures.err
    (subst (λ o. ReadsHeaderPart (cut_part c.args.graph.now) c.args.file.now c.cut.new.file before now (Ok o)) c.in-Ok-Some.field-0-is c.in-Ok-Some.ensures.cut)))

pub returns-in-Ok-Some-clause-fits : goal.returns-in-Ok-Some-clause-fits
returns-in-Ok-Some-clause-fits g c =
    let one : c.args.file.now.version ≡ 1 = ⊎_elim (λ a. a) (λ b. absurd (c.if-version-eq2.false (c.version.ensures ∙ b))) c.requires.version in
    rw (c.settle.ensures.read)
    (fit_cut c.args.graph.now c.args.file.now.version c.one_block.result c.in-Ok-Some.cut one (subst (IsCutOf c.args.graph.now) c.in-Ok-Some.field-0-is c.in-Ok-Some.ensures.fits) c.one_block.ensures.ok)

pub returns-in-Err-clause-blocks : goal.returns-in-Err-clause-blocks
returns-in-Err-clause-blocks g c =
    let one : c.args.file.now.version ≡ 1 = ⊎_elim (λ a. a) (λ b. absurd (c.if-version-eq2.false (c.version.ensures ∙ b))) c.requires.version in
    refused_cut c.args.graph.now c.args.file.now.version c.in-Err.fail one c.in-Err.ensures.cut
