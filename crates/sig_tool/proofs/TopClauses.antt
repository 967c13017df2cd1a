-- The statuses that are answered.
use Rattle.sig_tool.proofs.Common.{ℕ, inl, inr, Command, Build, Check, Code, Exec, Judge, Load, Play, Print, Run, Tree, IsBuildStatus, IsCompileStatus, IsExecStatus, IsRunStatus, IsLoadStatus, IsStatus, IsStatusOf}

compile_status : (status : ℕ) → IsCompileStatus status → IsStatus status
compile_status status (inl is) = inl (inl (inl is))
compile_status status (inr (inl is)) = inr (inr is)
compile_status status (inr (inr (inl is))) = inr (inl (inl is))
compile_status status (inr (inr (inr (inl is)))) = inr (inl (inr (inr (inr (inl is)))))
compile_status status (inr (inr (inr (inr (inl is))))) = inr (inl (inr (inr (inr (inr (inl is))))))
compile_status status (inr (inr (inr (inr (inr is))))) = inr (inl (inr (inr (inr (inr (inr (inl is)))))))

run_status : (status : ℕ) → IsRunStatus status → IsStatus status
run_status status (inl ends) = inl (inl ends)
run_status status (inr (inl is)) = inr (inr is)
run_status status (inr (inr (inl is))) = inr (inl (inl is))
run_status status (inr (inr (inr (inl is)))) = inr (inl (inr (inl is)))
run_status status (inr (inr (inr (inr (inl is))))) = inr (inl (inr (inr (inl is))))
run_status status (inr (inr (inr (inr (inr (inl is)))))) = inr (inl (inr (inr (inr (inl is)))))
run_status status (inr (inr (inr (inr (inr (inr (inl is))))))) = inr (inl (inr (inr (inr (inr (inl is))))))
run_status status (inr (inr (inr (inr (inr (inr (inr is))))))) = inr (inl (inr (inr (inr (inr (inr (inl is)))))))

load_status : (status : ℕ) → IsLoadStatus status → IsStatus status
load_status status (inl ends) = inl (inl ends)
load_status status (inr (inl is)) = inr (inr is)
load_status status (inr (inr (inl is))) = inr (inl (inl is))
load_status status (inr (inr (inr (inl is)))) = inr (inl (inr (inl is)))
load_status status (inr (inr (inr (inr (inl is))))) = inr (inl (inr (inr (inl is))))
load_status status (inr (inr (inr (inr (inr (inl is)))))) = inr (inl (inr (inr (inr (inr (inl is))))))
load_status status (inr (inr (inr (inr (inr (inr is)))))) = inr (inl (inr (inr (inr (inr (inr (inl is)))))))

build_status : (status : ℕ) → IsBuildStatus status → IsStatus status
build_status status (inl is) = compile_status status is
build_status status (inr is) = inr (inl (inr (inr (inr (inr (inr (inr is)))))))

exec_status : (status : ℕ) → IsExecStatus status → IsStatus status
exec_status status (inl ends) = inl (inl ends)
exec_status status (inr (inl is)) = inr (inr is)
exec_status status (inr (inr (inl is))) = inr (inl (inr (inr (inl is))))
exec_status status (inr (inr (inr (inl is)))) = inr (inl (inr (inr (inr (inl is)))))
exec_status status (inr (inr (inr (inr (inl is))))) = inr (inl (inr (inr (inr (inr (inl is))))))
exec_status status (inr (inr (inr (inr (inr is))))) = inr (inl (inr (inr (inr (inr (inr (inl is)))))))

-- a status of a command is one of those that are answered
pub is_status : (c : Command) (status : ℕ) → IsStatusOf c status → IsStatus status
is_status (Run program flows settings) status is = run_status status is
is_status (Play program flows events settings) status is = run_status status is
is_status (Check program pace) status is = compile_status status is
is_status (Tree program pace) status is = compile_status status is
is_status (Code program pace) status is = compile_status status is
is_status (Load seed stages settings) status is = load_status status is
is_status (Print program) status (inl is) = inl (inl (inl is))
is_status (Print program) status (inr (inl is)) = inr (inr is)
is_status (Print program) status (inr (inr (inl is))) = inr (inl (inl is))
is_status (Print program) status (inr (inr (inr (inl is)))) = inr (inl (inr (inr (inr (inl is)))))
is_status (Print program) status (inr (inr (inr (inr is)))) = inr (inl (inr (inr (inr (inr (inl is))))))
is_status (Judge program traces) status (inl (inl is)) = inl (inl (inl is))
is_status (Judge program traces) status (inl (inr is)) = inl (inr is)
is_status (Judge program traces) status (inr (inl is)) = inr (inr is)
is_status (Judge program traces) status (inr (inr (inl is))) = inr (inl (inl is))
is_status (Judge program traces) status (inr (inr (inr (inl is)))) = inr (inl (inr (inr (inl is))))
is_status (Judge program traces) status (inr (inr (inr (inr (inl is))))) = inr (inl (inr (inr (inr (inl is)))))
is_status (Judge program traces) status (inr (inr (inr (inr (inr is))))) = inr (inl (inr (inr (inr (inr (inl is))))))
is_status (Build program) status is = build_status status is
is_status (Exec image flows settings) status is = exec_status status is
