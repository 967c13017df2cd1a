-- When a command is done, if memory is found and the nodes of diagrams suffice; and when it comes to an outcome.
use Rattle.std.specs.Prelude.{◌≡◌, ℕ, List, Some}
use Rattle.sig_tool.specs.Prelude.{⊤, false, Contents, Kernel, IsShortProgram, program as generated, Command, Build, Check, Code, Exec, Load, Play, Print, Run, Tree, CanBuild, CanCompile, CanExec, CanPrint, CanRun, CanLoad, CanPlay, AreBytes, HoldsSoundImage}

-- The files of a command are good: its program is accepted, or has a tree where it is printed alone; its links do not hold too
-- many items; its image is short enough to be built, or sound to be run; and its flows and its events have a reading. Of
-- `judge` this is not said.
abbrev pub CanBeDone : Contents → Command → Type 0
CanBeDone held (Run program flows settings) = CanRun held program flows settings
CanBeDone held (Play program flows events settings) = CanPlay held program flows events settings
CanBeDone held (Check program pace) = CanCompile pace held program
CanBeDone held (Tree program pace) = CanCompile pace held program
CanBeDone held (Code program pace) = CanCompile pace held program
CanBeDone held (Print program) = CanPrint held program
CanBeDone held (Load seed stages settings) = CanLoad seed stages settings
CanBeDone held (Build program) = CanBuild held program
CanBeDone held (Exec image flows settings) = CanExec held image flows
CanBeDone held _ = ⊥

-- The program of a command is good: it is accepted, or has a tree where it is printed alone; or its image is sound. Of `judge`
-- this is not said.
abbrev pub HasGoodProgram : Contents → Command → Type 0
HasGoodProgram held (Run program flows settings) = CanCompile settings.pace held program
HasGoodProgram held (Play program flows events settings) = CanCompile settings.pace held program
HasGoodProgram held (Check program pace) = CanCompile pace held program
HasGoodProgram held (Tree program pace) = CanCompile pace held program
HasGoodProgram held (Code program pace) = CanCompile pace held program
HasGoodProgram held (Print program) = CanPrint held program
HasGoodProgram held (Load seed stages settings) = (kernel : Kernel) × IsShortProgram (generated stages) kernel
HasGoodProgram held (Build program) = CanCompile false held program
HasGoodProgram held (Exec image flows settings) = HoldsSoundImage (held image)
HasGoodProgram held _ = ⊥

-- What the image file of a command holds are bytes, as every file does that there is.
abbrev pub HasByteImage : Contents → Command → Type 0
HasByteImage held (Exec image flows settings) = (bytes : List ℕ) → held image ≡ Some bytes → AreBytes bytes
HasByteImage held _ = ⊤
