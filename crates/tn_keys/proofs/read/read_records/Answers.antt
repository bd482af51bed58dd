use Rattle.std.proofs.Common.{◌≡◌, ◌≤◌, ◌<◌, ◌++◌, ◌∷◌, ◌^◌, [], ◌∙◌, sym, ap, arith, not}
use Rattle.std.specs.List.{list_all}
use Rattle.tn_keys.specs.declared.record.RouteRec.{RouteRec}
use Rattle.tn_keys.specs.Beat.{chunks_of, lacks_ind}
use Rattle.tn_keys.specs.Read.{word_at}
use Rattle.tn_keys.specs.Record.{end_of, fits, record_in}
use Rattle.tn_keys.proofs.Reading.{after_ind, chunks_more, ended_more, fit_more, next_record, stops_tag, unused}
use Rattle.tn_keys.proofs.read.read_records.Goals as goal

pub returns-in_default : goal.returns-in_default
returns-in_default c = stops_tag c.args.version c.loop-at.ended c.args.chunks.now c.loop-at.at c.loop-at.beat _ c.loop-at.invariant.so_far c.loop-at-test.true (sym c.tag_in.ensures ∙ c.in_default.is)

pub returns-then-word-limit : goal.returns-then-word-limit
returns-then-word-limit c =
    let big : 2 ^ end_of c.in-Some.tag ≤ word_at c.args.chunks.now c.loop-at.at c.chunks-size.result = omega arith in
    unused c.args.version c.loop-at.ended c.args.chunks.now c.loop-at.at c.chunks-size.result c.in-Some.tag c.loop-at.beat _ c.loop-at.invariant.so_far (sym c.tag_in.ensures ∙ c.in-Some.is) c.chunks-size.ensures.value c.if-at-size.false big

pub returns-then-ended : goal.returns-then-ended
returns-then-ended c =
    let small : word_at c.args.chunks.now c.loop-at.at c.chunks-size.result < 2 ^ end_of c.in-Some.tag = omega arith in
    after_ind c.args.version c.loop-at.ended c.args.chunks.now c.loop-at.at c.chunks-size.result c.in-Some.tag c.loop-at.beat _ c.loop-at.invariant.so_far c.if-ended.true (sym c.tag_in.ensures ∙ c.in-Some.is) c.chunks-size.ensures.value c.if-at-size.false small

pub loop-at-preserved : goal.loop-at-preserved
loop-at-preserved c =
    let small : word_at c.args.chunks.now c.loop-at.at c.chunks-size.result < 2 ^ end_of c.in-Some.tag = omega arith in
    let lacks = c.loop-at.invariant.ended_is ∙ ap not c.if-ended.false in
    let new : c.push.new.self ≡ c.loop-at.beat ++ record_in c.in-Some.tag (word_at c.args.chunks.now c.loop-at.at c.chunks-size.result) ∷ [] =
    c.push.ensures ∙ ap (λ (r : RouteRec). c.loop-at.beat ++ r ∷ []) (c.read_record.ensures ∙ ap (record_in c.in-Some.tag) c.word_at-word.ensures) in
    let next = next_record c.args.version c.loop-at.ended c.args.chunks.now c.loop-at.at c.chunks-size.result c.in-Some.tag c.loop-at.beat _ c.loop-at.invariant.so_far c.if-ended.false (sym c.tag_in.ensures ∙ c.in-Some.is) c.chunks-size.ensures.value c.if-at-size.false small in
    record {
      at_is = ap chunks_of new ∙ chunks_more c.in-Some.tag _ c.loop-at.beat c.chunks-size.result c.loop-at.at c.chunks-size.ensures.value c.loop-at.invariant.at_is;
      within = c.if-at-size.false;
      fit = ap (list_all fits) new ∙ fit_more c.in-Some.tag _ c.loop-at.beat c.loop-at.invariant.fit;
      ended_is = ap lacks_ind new ∙ ended_more c.in-Some.tag _ c.loop-at.beat lacks ∙ ap not (sym c.is_ind-ended.ensures);
      so_far = rw (new, c.is_ind-ended.ensures) next;
    }
