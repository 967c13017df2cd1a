use Rattle.std.proofs.Common.{◌≡◌, ◌<◌, IfSome, take}
use Rattle.std.specs.Option.{option_map}
use Rattle.sig_text.specs.MemFiles.{last_named, file_at}
use Rattle.sig_text.proofs.mem_files.last_index.Given as goal

abbrev pub invariant-loop-index : goal.invariant-loop-index
invariant-loop-index l = record {
  found : last_named (take l.index l.files) l.name ≡ option_map (file_at l.files) l.found;
  bound : IfSome l.found (λ index. index < l.index);
}
