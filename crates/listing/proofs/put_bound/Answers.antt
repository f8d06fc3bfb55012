-- By the kind: each has its mark, and a standard variable has no line.
-- a line with this mark that was written
use mathlib.Core.Path.{◌≡◌, ap, ◌∙◌}
use Prim.Native.Nat.{ℕ}
use mathlib.Core.List.{List}
use mir.Syntax.{w64}
use mir.Val.{to_z, of_z}
use mir.Facts.{to_z-of_z}
use Rattle.text.specs.Output.{Appends}
use Rattle.text.proofs.OutputLaws.{appends_as, appends_none}
use Rattle.entries.specs.Text.{entry_line}
use Rattle.listing.specs.Lists.{bound_line}
use Rattle.listing.proofs.ListLaws.{most_listed, least_listed, none_listed}
use borrow.Author.Rules.{rules}
use Rattle.listing.proofs.put_bound.Goals as goal

pub returns-in-1 : goal.returns-in-1
returns-in-1 c = record { appends = appends_as (ap (entry_line c.args.v 0) (to_z-of_z c.ranges.z) ∙ most_listed _ _ _ c.in-1.is) c.put_marked.ensures.appends; upper_bound = c.put_marked.ensures.upper_bound }

pub returns-in-2 : goal.returns-in-2
returns-in-2 c = record { appends = appends_as (ap (entry_line c.args.v 3) (to_z-of_z c.ranges.z) ∙ least_listed _ _ _ c.in-2.is) c.put_marked-in-2.ensures.appends; upper_bound = c.put_marked-in-2.ensures.upper_bound }

pub returns-in_default : goal.returns-in_default
returns-in_default c = record { appends = appends_as (none_listed _ _ _ c.in_default.in_default-own.rest.0.1 c.in_default.in_default-own.rest.1) (appends_none _ _); upper_bound = search rules }
