-- Two lists that are equal have the same values.
use mathlib.Core.Path.{sym, ap, ◌∙◌}
use mathlib.Core.List.{List}
use lib.IntN.{ℤ, pos}
use lib.ListN.{get_or}
use Rattle.std.proofs.lemmas.List.{get_or-take}
use Rattle.std.specs.Cmp.Rules.{signed_items}
use Rattle.targets.proofs.aims.arrived.Goals as goal

pub returns : goal.returns
returns c = λ e v l.
    let same = (signed_items _ _).0 (sym c.eq.ensures ∙ e) in
    sym (get_or-take c.args.variables c.args.aims.now v (pos 0) l) ∙ ap (λ (xs : List ℤ). get_or xs v (pos 0)) same ∙ get_or-take c.args.variables c.args.target.now v (pos 0) l
