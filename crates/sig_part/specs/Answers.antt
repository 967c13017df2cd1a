-- Why operations are not split.
use Rattle.std.specs.Prelude.{◌≡◌}
use Rattle.sig_part.specs.Prelude.{List, SigId, LINKS, Kernel, Operation, NeedsTooManyLinks}
use Rattle.sig_part.specs.declared.answer.PartAnswer.{PartAnswer}
use Rattle.sig_part.specs.declared.answer.PartAnswer.TheVariants.{TooManyLinks, OutOfMemory}

-- operations are not split where they need more links than are kept, or for want of memory
abbrev pub IsRefusal : Kernel → List SigId → List Operation → PartAnswer → Type 0
IsRefusal kernel conditions operations (TooManyLinks limit) = (limit ≡ LINKS) × NeedsTooManyLinks kernel conditions operations
IsRefusal kernel conditions operations OutOfMemory = Unit {0}
