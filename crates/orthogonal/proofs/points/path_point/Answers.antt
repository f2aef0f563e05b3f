-- `path_point` is the source, a point between, or the target.
use borrow.Author.Rules.{rules}
use mathlib.Core.Path.{◌∙◌}
use Rattle.orthogonal.proofs.Laws.{path_source, path_between, path_target}
use Rattle.orthogonal.proofs.points.path_point.Goals as goal

pub returns-then-k-eq0 : goal.returns-then-k-eq0
returns-then-k-eq0 c = c.source_point.ensures ∙ path_source _ _ _ (search rules)

pub returns-then-k-point_count : goal.returns-then-k-point_count
returns-then-k-point_count c = c.point_at.ensures ∙ path_between _ _ _ (search rules) (search rules)

pub returns : goal.returns
returns c = c.target_point.ensures ∙ path_target _ _ _ (search rules)
