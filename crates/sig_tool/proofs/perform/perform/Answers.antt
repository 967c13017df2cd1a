use Rattle.sig_tool.proofs.{None, subst, Command, IsLimited}
use Rattle.sig_tool.proofs.perform.perform.Goals as goal

pub run-requires-clause-bounds : goal.run-requires-clause-bounds
run-requires-clause-bounds g c κs within = (subst (λ (d : Command). IsLimited d) c.in-Run.is c.requires.limited).settings

pub run-requires-clause-few : goal.run-requires-clause-few
run-requires-clause-few g c κs within = (subst (λ (d : Command). IsLimited d) c.in-Run.is c.requires.limited).settings.workers

pub load_command-requires-clause-bounds : goal.load_command-requires-clause-bounds
load_command-requires-clause-bounds g c κs within = (subst (λ (d : Command). IsLimited d) c.in-Load.is c.requires.limited).settings

pub play_command-requires-clause-capacity : goal.play_command-requires-clause-capacity
play_command-requires-clause-capacity g c = (subst (λ (d : Command). IsLimited d) c.in-Play.is c.requires.limited).settings.capacity.0

pub play_command-requires-clause-instants : goal.play_command-requires-clause-instants
play_command-requires-clause-instants g c = (subst (λ (d : Command). IsLimited d) c.in-Play.is c.requires.limited).settings.instants

pub load_command-requires-clause-some : goal.load_command-requires-clause-some
load_command-requires-clause-some g c κs within = (subst (λ (d : Command). IsLimited d) c.in-Load.is c.requires.limited).stages.0

pub load_command-requires-clause-few : goal.load_command-requires-clause-few
load_command-requires-clause-few g c κs within = (subst (λ (d : Command). IsLimited d) c.in-Load.is c.requires.limited).stages.1

pub returns-in-Run-clause-performs : goal.returns-in-Run-clause-performs
returns-in-Run-clause-performs g c = rw c.in-Run.is (rw (c.name_of-program.ensures, c.name_of-flows.ensures) at c.run.ensures)

pub returns-in-Play-clause-performs : goal.returns-in-Play-clause-performs
returns-in-Play-clause-performs g c = rw c.in-Play.is (rw (c.name_of-program-in-Play.ensures, c.name_of-flows-in-Play.ensures, c.name_of-events.ensures) at c.play_command.ensures)

pub returns-in-Load-clause-performs : goal.returns-in-Load-clause-performs
returns-in-Load-clause-performs g c =
    rw c.in-Load.is (c.load_command.ensures (g.F.Files.contents c.args.files.now) (g.F.Files.at c.args.files.now) (g.F.Files.misses c.args.files.now) (g.F.Files.faults c.args.files.now))

pub returns-in-Print-clause-performs : goal.returns-in-Print-clause-performs
returns-in-Print-clause-performs g c = rw c.in-Print.is (rw c.name_of-in-Print.ensures at c.print_command.ensures)

pub returns-in-Judge-clause-performs : goal.returns-in-Judge-clause-performs
returns-in-Judge-clause-performs g c = rw c.in-Judge.is (rw (c.name_of-program-in-Judge.ensures, c.name_of-traces.ensures) at c.judge_command.ensures)

pub returns-in-Check-clause-performs : goal.returns-in-Check-clause-performs
returns-in-Check-clause-performs g c = rw c.in-Check.is (rw c.name_of.ensures at c.compile_command.ensures)

pub returns-in-Tree-clause-performs : goal.returns-in-Tree-clause-performs
returns-in-Tree-clause-performs g c = rw c.in-Tree.is (rw c.name_of-in-Tree.ensures at c.compile_command-in-Tree.ensures)

pub returns-in-Code-clause-performs : goal.returns-in-Code-clause-performs
returns-in-Code-clause-performs g c = rw c.in-Code.is (rw c.name_of-in-Code.ensures at c.compile_command-in-Code.ensures)

pub returns-in-Build-clause-performs : goal.returns-in-Build-clause-performs
returns-in-Build-clause-performs g c = rw c.in-Build.is (rw c.name_of-in-Build.ensures at c.build_command.ensures.performs)

pub returns-in-Exec-clause-performs : goal.returns-in-Exec-clause-performs
returns-in-Exec-clause-performs g c = rw c.in-Exec.is (rw (c.name_of-image.ensures, c.name_of-flows-in-Exec.ensures) at c.exec_command.ensures.performs)

-- a load asks for no file

pub returns-in-Load-clause-load : goal.returns-in-Load-clause-load
returns-in-Load-clause-load g c = rw c.in-Load.is (λ contents. c.load_command.ensures contents None 0 0)

pub returns-in-Run-clause-load : goal.returns-in-Run-clause-load
returns-in-Run-clause-load g c = rw c.in-Run.is tt

pub returns-in-Play-clause-load : goal.returns-in-Play-clause-load
returns-in-Play-clause-load g c = rw c.in-Play.is tt

pub returns-in-Print-clause-load : goal.returns-in-Print-clause-load
returns-in-Print-clause-load g c = rw c.in-Print.is tt

pub returns-in-Judge-clause-load : goal.returns-in-Judge-clause-load
returns-in-Judge-clause-load g c = rw c.in-Judge.is tt

pub returns-in-Check-clause-load : goal.returns-in-Check-clause-load
returns-in-Check-clause-load g c = rw c.in-Check.is tt

pub returns-in-Tree-clause-load : goal.returns-in-Tree-clause-load
returns-in-Tree-clause-load g c = rw c.in-Tree.is tt

pub returns-in-Code-clause-load : goal.returns-in-Code-clause-load
returns-in-Code-clause-load g c = rw c.in-Code.is tt

pub returns-in-Build-clause-load : goal.returns-in-Build-clause-load
returns-in-Build-clause-load g c = rw c.in-Build.is tt

pub returns-in-Exec-clause-load : goal.returns-in-Exec-clause-load
returns-in-Exec-clause-load g c = rw c.in-Exec.is tt
