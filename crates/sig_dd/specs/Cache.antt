-- What a store keeps of earlier calls.
use Rattle.std.specs.Prelude.{◌≤◌, ◌+◌, ◌^◌, List, length, Contains}
use Rattle.sig_dd.specs.Nodes.{StoreView, IsStore}
use Rattle.sig_dd.specs.Question.{HoldsAll, IsAnswer}
use Rattle.sig_dd.specs.declared.cache.Choice.{Choice}
use Rattle.sig_dd.specs.declared.node.Ref.{Ref}
use Rattle.sig_dd.specs.declared.node.Node.{Node}
use Rattle.sig_dd.specs.declared.question.Question.{Question}
use Rattle.sig_dd.specs.declared.question.Question.TheVariants.{Pick}

-- the question of a choice
abbrev pub question_of : Choice → Question
question_of c = Pick c.first c.second c.third

-- each entry of the cache is the right result of its choice
abbrev pub IsCache : List Node → List (Choice × Ref) → Type 0
IsCache nodes entries =
    (e : Choice × Ref) → Contains entries e → HoldsAll nodes (question_of e.0) × IsAnswer nodes (question_of e.0) e.1

-- what holds of every store's fields
pub record IsInside (s : StoreView) (entries : List (Choice × Ref)) : Type 0 where
  pub store : IsStore s
  pub numbered : length s.nodes + 2 ≤ 2 ^ 32
  pub cache : IsCache s.nodes entries
