use Rattle.std.proofs.Common.{◌∙◌, ap}
use Rattle.tn_keys.specs.declared.record.RouteRec.TheVariants.{Urm1}
use Rattle.tn_keys.specs.Record.{chunks}
use Rattle.tn_keys.proofs.Writing.{fill_step}
use Rattle.tn_keys.proofs.write.fill_chunks.Goals as goal

pub loop-record-preserved : goal.loop-record-preserved
loop-record-preserved c =
    let step = fill_step c.args.records.now c.loop-record.record-index (Urm1 0 0 0) c.loop-record.chunks c.put_word.new.chunks c.loop-record.used c.chunks-size.result c.word.result
    c.loop-record.invariant.so_far c.loop-record.invariant.used_is (c.chunks-size.ensures.value ∙ ap chunks c.tag.ensures) c.requires c.loop-record-test.true c.word.ensures.value c.put_word.ensures.value in
    record {
      used_is = step.0;
      so_far = step.1;
      small = c.put_word.ensures.small;
    }
