use Rattle.std.proofs.Common.{[], ◌∷◌, ◌++◌, ◌∙◌, ap, arith, get_or, length, set}
use Rattle.std.proofs.lemmas.List.{length-map}
use Rattle.polite_routes.proofs.Entries.{list_pushed}
use Rattle.polite_routes.proofs.in_edges.InLists.push.Goals as goal

pub returns : goal.returns
returns c =
    list_pushed (λ v. v.items) c.self.inside.lists.items c.args.local c.index_mut.result.now c.push.new.self c.args.edge
    (let l = ap length c.self.view_is in omega (arith, c.requires, length-map c.self.inside.lists.items (λ v. v.items))) c.index_mut.ensures.value c.in_ok-push.ensures.items
    ∙ ap (λ xs. set xs c.args.local (get_or xs c.args.local [] ++ c.args.edge ∷ [])) c.self.view_is
