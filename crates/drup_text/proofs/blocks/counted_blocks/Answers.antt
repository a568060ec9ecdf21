use Rattle.std.proofs.Common.{◌∙◌, ◌++◌, ◌≡◌, ◌+◌, ◌<◌, ◌∷◌, [], IfOk, None, Ok, OnOk, ap, arith, length, length-append, refl, subst, sym}
use Rattle.std.specs.Result.{result_err}
use Rattle.graph_core.specs.Graph.Extended.{Extended, without_cut}
use Rattle.mv_desk.proofs.CallerLemmas.{KeepsTelling-refl, ReadsOnly-refl}
use Rattle.mv_desk.specs.declared.slot.Slot.TheVariants.{Clauses}
use Rattle.mv_text.specs.CertificateFiles.{FileState, KeepsFile, settled}
use Rattle.ripple_graft.specs.Blocks.{AreBlocks, graft_all, graft_block}
use Rattle.drup_text.specs.HeaderSteps.{ReadsHeaderPart, block_part, blocks_part}
use Rattle.drup_text.specs.PassingHeaders.{block_lines}
use Rattle.drup_text.proofs.BlockSteps.{block_on, blocks_all, blocks_more_fit, blocks_more_made, blocks_refused, blocks_so_far, lines_more, no_blocks}
use Rattle.drup_text.proofs.HeaderSteps.{keeps_on, keeps_settled, nothing_yet, part_behind, part_settled, reads_both, refused_behind, same_part}
use Rattle.drup_text.proofs.blocks.counted_blocks.Goals as goal

pub loop-init : goal.loop-init
loop-init g c =
    let start = without_cut c.args.graph.now in
    let before = g.D.Desk.seen c.args.desk.now in
    let none = c.new-blocks.ensures.items in
    record {
      «open» = c.requires.open;
      so_far = nothing_yet (blocks_so_far start c.args.count) c.args.file.now before c.new-blocks.result (ap (block_lines 1) none) (no_blocks start c.args.count c.new-blocks.result none) c.requires.goes_on.ended;
      many = ap length none;
      made = c.without_cut-extended.ensures ∙ ap (graft_all start) (sym none);
      fit = subst (AreBlocks start) (sym none) tt;
      keeps = record { version = refl; lengths = refl; failed = c.requires.goes_on.failed; piece = c.requires.piece };
      reads = record { only = ReadsOnly-refl Clauses before; stands = refl; tells = KeepsTelling-refl before };
    }

pub loop-preserved : goal.loop-preserved
loop-preserved g c =
    let start = without_cut c.args.graph.now in
    let before = g.D.Desk.seen c.args.desk.now in
    let between = g.D.Desk.seen c.loop.desk in
    let now = g.D.Desk.seen c.next_block.new.desk in
    let so_far = blocks_so_far start c.args.count in
    let blocks = c.loop.blocks in
    let longer = c.append.new.blocks in
    let block = c.in-Ok.block in
    let mid = c.next_block.new.file in
    let many = c.loop.invariant.many in
    let read = sym c.in-Ok-settle.ensures.read in
    let made : longer.items ≡ blocks.items ++ block ∷ [] = subst (λ r. OnOk r (longer.items ≡ blocks.items ++ block ∷ [])) read c.append.ensures.more in
    let next : c.in-Ok-settle.longer ≡ graft_block c.loop.extended block = subst (λ r. IfOk r (λ (e : Extended). e ≡ graft_block c.loop.extended block)) read c.append.ensures.ok in
    let one : length longer.items ≡ length blocks.items + 1 = ap length made ∙ length-append blocks.items (block ∷ []) in
    let lines : block_lines 1 longer.items ≡ block_lines 1 blocks.items + (1 + length block.cut.pairs) = ap (block_lines 1) made ∙ lines_more 1 blocks.items block in
    let file_is : settled mid None ≡ c.settle.new.self = sym (c.settle.ensures.settled ∙ ap (λ r. settled mid (result_err r)) read) in
    let early : length blocks.items < c.args.count = subst (λ n. n < c.args.count) (sym many) c.loop-test.true in
    let reads = c.in-Ok.ensures.reads in
    record {
      «open» = reads.only.mode.reads ∙ c.loop.invariant.open;
      so_far = subst (λ (f : FileState). ReadsHeaderPart so_far c.args.file.now f before now (Ok longer)) file_is
          (part_settled so_far None longer
          (part_behind so_far (block_part c.loop.extended) so_far blocks c.loop.invariant.keeps.lengths c.loop.invariant.so_far block longer lines
          (λ IsLong bytes rest body passed here. block_on start c.loop.extended c.args.count blocks early c.loop.invariant.made IsLong bytes rest passed longer block body made here) c.in-Ok.ensures.block));
      many = omega (arith, one, many);
      made = blocks_more_made start c.loop.extended c.in-Ok-settle.longer blocks.items block c.loop.invariant.made next ∙ ap (graft_all start) (sym made);
      fit = subst (AreBlocks start) (sym made) (blocks_more_fit start c.loop.extended blocks.items block c.loop.invariant.fit c.loop.invariant.made c.in-Ok.ensures.fits);
      keeps = subst (λ (f : FileState). KeepsFile c.args.file.now f (Ok longer)) file_is (keeps_settled block (Ok longer) (keeps_on blocks (Ok block) c.loop.invariant.keeps c.in-Ok.ensures.keeps));
      reads = reads_both before between now blocks block longer c.loop.invariant.reads reads;
    }

pub returns-in-Err-clause-blocks : goal.returns-in-Err-clause-blocks
returns-in-Err-clause-blocks g c =
    let start = without_cut c.args.graph.now in
    let early : length c.loop.blocks.items < c.args.count = subst (λ n. n < c.args.count) (sym c.loop.invariant.many) c.loop-test.true in
    refused_behind (blocks_so_far start c.args.count) (block_part c.loop.extended) (blocks_part start c.args.count) c.loop.blocks c.loop.invariant.keeps.lengths c.loop.invariant.so_far c.in-Err.fail c.loop.invariant.reads.stands
    (λ IsLong bytes rest p passed refused. blocks_refused start c.loop.extended c.args.count c.loop.blocks early c.loop.invariant.made IsLong bytes rest passed c.args.file.now.number p refused) c.in-Err.ensures.block

pub returns-clause-blocks : goal.returns-clause-blocks
returns-clause-blocks g c =
    let start = without_cut c.args.graph.now in
    same_part (blocks_so_far start c.args.count) (blocks_part start c.args.count) c.loop.blocks c.loop.blocks refl (blocks_all start c.args.count c.loop.blocks) c.loop.invariant.so_far
