-- Lists of references into a program, as the definitions see them.
use Rattle.sig_scope.specs.Prelude.{ℕ, List, map, Name, Body, Process, Equations, equations_of, ProcessModel, model_of, name_of}
use denote.Ref.{Bor}
use Rattle.sig_scope.specs.declared.scope.Interface.{Interface}

abbrev pub names_in : List (Bor Name) → List Name
names_in names = map (λ n. n.now) names

abbrev pub bodies_in : List (Bor Body) → List Equations
bodies_in bodies = map (λ b. equations_of b.now) bodies

abbrev pub models_in : List (Bor Process) → List ProcessModel
models_in processes = map (λ p. model_of p.now) processes

abbrev pub interface_models : List Interface → List ProcessModel
interface_models interfaces = map (λ i. model_of i.process.now) interfaces

-- the texts of the names of processes
abbrev pub process_texts : List ProcessModel → List (List ℕ)
process_texts all = map (λ p. (name_of p).text) all
