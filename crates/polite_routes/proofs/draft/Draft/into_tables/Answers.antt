use Rattle.std.proofs.Common.{ap, arith, length}
use Rattle.std.proofs.lemmas.List.{length-map}
use Rattle.polite_routes.proofs.Fullness.{short_at}
use Rattle.polite_routes.proofs.draft.Draft.into_tables.Goals as goal

pub of-requires-clause-few : goal.of-requires-clause-few
of-requires-clause-few c =
    let l = ap length c.in_ok-boards.ensures in
    omega (arith, length-map c.in_ok-boards.boards.items (λ v. v.items), c.requires.boards)

pub of-requires-clause-short : goal.of-requires-clause-short
of-requires-clause-short c = short_at c.args.self _ c.in_ok-boards.ensures c.requires.short
