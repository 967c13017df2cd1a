-- A command over told contents comes to exactly one outcome.
use Rattle.sig_tool.proofs.Common.{◌≡◌, ℕ, Bool, List, Settings, Contents, AreBytes, Some, Command, Build, Check, Code, Exec, Judge, Load, Play, Print, Run, Tree, Outcome, HasByteImage, HasGoodProgram, RunComesTo, PlayComesTo, LoadComesTo, BuildComesTo, ExecComesTo, JudgeComesTo, PrintComesTo, CompileComesTo, IsDueOf, Product, one_compile_outcome, one_print_outcome, one_judge_outcome, one_run_outcome, one_load_outcome, one_play_outcome, one_build_outcome, one_exec_outcome, ComesTo, canonical_text, done}
use Rattle.sig_compile_command.specs.declared.product.Product.TheVariants as product
use Rattle.sig_compile_command.proofs.Complete as compiles
use Rattle.sig_image_command.proofs.Complete as images
use Rattle.sig_load_command.proofs.Complete as loads
use Rattle.sig_play_command.proofs.Complete as plays
use Rattle.sig_loaded.proofs.Complete as runs

pub one_outcome : (held : Contents) (c : Command) (one other : Outcome) → ComesTo held c one → ComesTo held c other → one ≡ other
one_outcome held (Run program flows settings) one other = one_run_outcome program flows settings held one other
one_outcome held (Play program flows events settings) one other = one_play_outcome program flows events settings held one other
one_outcome held (Check program pace) one other = one_compile_outcome product.Verdict pace program held one other
one_outcome held (Tree program pace) one other = one_compile_outcome product.Tree pace program held one other
one_outcome held (Code program pace) one other = one_compile_outcome product.Code pace program held one other
one_outcome held (Print program) one other = one_print_outcome program held one other
one_outcome held (Judge program traces) one other = one_judge_outcome program traces held one other
one_outcome held (Load seed stages settings) one other = one_load_outcome seed stages settings one other
one_outcome held (Build program) one other = one_build_outcome program held one other
one_outcome held (Exec image flows settings) one other = one_exec_outcome image flows settings held one other

pub some_outcome : (held : Contents) (c : Command) → HasGoodProgram held c → (o : Outcome) × ComesTo held c o
some_outcome held (Run program flows settings) can = runs.some_outcome held program flows settings can.kernel can.accepted
some_outcome held (Play program flows events settings) can = plays.some_outcome held program flows events settings can.kernel can.accepted
some_outcome held (Check program pace) can = compiles.some_due held program pace can product.Verdict
some_outcome held (Tree program pace) can = compiles.some_due held program pace can product.Tree
some_outcome held (Code program pace) can = compiles.some_due held program pace can product.Code
some_outcome held (Print program) can = (done (canonical_text can.tree) program, compiles.some_print held program can)
some_outcome held (Load seed stages settings) can = loads.some_outcome seed stages settings can.0 can.1
some_outcome held (Build program) can = images.some_build held program can.kernel can.accepted
some_outcome held (Exec image flows settings) can = images.some_exec held image flows settings can.image can.sound
some_outcome held _ can = absurd can

-- whatever its files hold
module _ (compiled : (pace : Bool) (held : Contents) (program : List ℕ) (product : Product) → (o : Outcome) × CompileComesTo (IsDueOf product) pace held program o)
    (printed : (held : Contents) (program : List ℕ) → (o : Outcome) × PrintComesTo held program o)
    (run : (held : Contents) (program flows : List ℕ) (settings : Settings) → (o : Outcome) × RunComesTo held program flows settings o)
    (play : (held : Contents) (program flows events : List ℕ) (settings : Settings) → (o : Outcome) × PlayComesTo held program flows events settings o)
    (load : (seed stages : ℕ) (settings : Settings) → (o : Outcome) × LoadComesTo seed stages settings o)
    (build : (held : Contents) (program : List ℕ) → (o : Outcome) × BuildComesTo held program o)
    (exec : (held : Contents) (image flows : List ℕ) (settings : Settings) → ((bytes : List ℕ) → held image ≡ Some bytes → AreBytes bytes) → (o : Outcome) × ExecComesTo held image flows settings o)
    (judge : (held : Contents) (program traces : List ℕ) → (o : Outcome) × JudgeComesTo held program traces o) where
  pub every_outcome : (held : Contents) (c : Command) → HasByteImage held c → (o : Outcome) × ComesTo held c o
  every_outcome held (Run program flows settings) are = run held program flows settings
  every_outcome held (Play program flows events settings) are = play held program flows events settings
  every_outcome held (Check program pace) are = compiled pace held program product.Verdict
  every_outcome held (Tree program pace) are = compiled pace held program product.Tree
  every_outcome held (Code program pace) are = compiled pace held program product.Code
  every_outcome held (Print program) are = printed held program
  every_outcome held (Judge program traces) are = judge held program traces
  every_outcome held (Load seed stages settings) are = load seed stages settings
  every_outcome held (Build program) are = build held program
  every_outcome held (Exec image flows settings) are = exec held image flows settings are
