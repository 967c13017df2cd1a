use Rattle.sig_file.proofs.{IsMemory, IsNodeBehind, IsOperation, IsSignalBehind, is_condition_behind, scope_of, IsTrue, length, each_at}
use Rattle.sig_file.proofs.laws.items_of_images_are_right.Goals as goal

pub returns-clause-signals : goal.returns-clause-signals
returns-clause-signals c = λ image n signal h e. each_at (IsSignalBehind image.inputs) _ image.signals n signal h.signals e

pub returns-clause-conditions : goal.returns-clause-conditions
returns-clause-conditions c = λ image n x h e. each_at (λ before y. IsTrue (is_condition_behind image.signals before y.0)) _ image.conditions n x h.conditions e

pub returns-clause-memories : goal.returns-clause-memories
returns-clause-memories c = λ image n memory h e. each_at (λ before. IsMemory) _ image.memories n memory h.memories e

pub returns-clause-nodes : goal.returns-clause-nodes
returns-clause-nodes c = λ image n node h e. each_at (IsNodeBehind (length image.conditions)) _ image.nodes n node h.nodes e

pub returns-clause-ops : goal.returns-clause-ops
returns-clause-ops c = λ image n op h e. each_at (λ before. IsOperation (scope_of image)) _ image.ops n op h.ops e
