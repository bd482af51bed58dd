use Rattle.std.proofs.Common.{rules, ◌∙◌, ◌≡◌, ◌≢◌, sym, subst}
use Rattle.std.specs.Prelude.{IfOk}
use Rattle.tn_keys.specs.Tables.{table_of}
use Rattle.tn_letters.specs.Tiles.{tables_of}
use Rattle.tn_bag.proofs.Copying.{bad_none, found_key, no_table, past_key, some_table, within_key}
use Rattle.tn_bag.proofs.keyed.key_records.Goals as goal
use Rattle.tn_bag.proofs.keyed.key_records.Goals.{then-count-eq0-via-then-count-eq0, then-count-eq0-via-else-count-eq0+then-is_none}

pub returns-in_default : goal.returns-in_default
returns-in_default g c =
    c.new.ensures.items ∙ sym (no_table (table_of c.args.world.now.shape (tables_of c.args.world.now) c.args.board) c.args.key.0 c.router_at.result c.router_at.ensures c.in_default.is)

pub returns-then-count-eq0 : goal.returns-then-count-eq0
returns-then-count-eq0 g c =
    let t = table_of c.args.world.now.shape (tables_of c.args.world.now) c.args.board in
    let same = some_table t c.router_at.result c.in-Some.router c.router_at.ensures c.in-Some.is in
    c.new-then-count-eq0.ensures.items ∙ sym (elim c.then-count-eq0.branch [
      | then-count-eq0-via-then-count-eq0 w ↦
          let none : c.count-count.result ≡ 0 = search rules in
          bad_none t c.args.key.0 (sym c.count-count.ensures.value ∙ none)
      | then-count-eq0-via-else-count-eq0+then-is_none w ↦
          past_key t c.in-Some.router.now.plan.beats c.args.key.0 c.first-first.result c.count-count.result w.beat.result same c.first-first.ensures.value c.count-count.ensures.value
          (search rules) w.beat.ensures (search rules)
    ])

pub joined_beats-requires : goal.joined_beats-requires
joined_beats-requires g c =
    within_key c.in-Some.router.now.plan.beats c.first-first.result c.count-count.result c.beat.result (search rules) c.beat.ensures (search rules)

pub returns : goal.returns
returns g c =
    let t = table_of c.args.world.now.shape (tables_of c.args.world.now) c.args.board in
    let same = some_table t c.router_at.result c.in-Some.router c.router_at.ensures c.in-Some.is in
    let some : c.count-count.result ≢ 0 = search rules in
    let within = within_key c.in-Some.router.now.plan.beats c.first-first.result c.count-count.result c.beat.result some c.beat.ensures (search rules) in
    subst (λ xs. IfOk c.joined_beats.result (λ all. all.items ≡ xs))
    (found_key t c.in-Some.router.now.plan.beats c.args.key.0 c.first-first.result c.count-count.result same c.first-first.ensures.value c.count-count.ensures.value some within) c.joined_beats.ensures
