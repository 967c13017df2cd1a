use Rattle.std.proofs.Common.{◌≡◌, arith}
use Rattle.std.proofs.lemmas.Grind.{common_steps}
use Rattle.std.specs.Option.{option_map}
use Rattle.sig_text.specs.MemFiles.{last_named, file_at}
use Rattle.sig_text.proofs.InMemory.{name_at-last}
use Rattle.sig_text.proofs.mem_files.last_index.Goals as goal

pub returns-clause-named : goal.returns-clause-named
returns-clause-named c =
    let last : last_named c.args.files.now c.args.name.now ≡ option_map (file_at c.args.files.now) c.loop-index.found = grind (arith, common_steps) in
    name_at-last _ _ _ last
