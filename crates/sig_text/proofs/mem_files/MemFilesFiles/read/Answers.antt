use Rattle.std.proofs.Common.{◌≡◌, ◌≤◌, ◌<◌, [], length, ap, sym, ◌∙◌, arith}
use Rattle.std.proofs.lemmas.List.{get_or_default}
use Rattle.sig_text.specs.MemFiles.{file_at}
use Rattle.sig_text.proofs.InMemory.{rest_at-read}
use Rattle.sig_text.proofs.mem_files.MemFilesFiles.read.Goals as goal

pub returns-clause-bytes : goal.returns-clause-bytes
returns-clause-bytes c =
    let within = rw c.in-Some.is at c.self.invariant in
    let there : c.in-Some.index < length c.self.inside.files.items = omega (arith, within.0, c.self.inside.files.ok) in
    let file : c.index.result.now ≡ file_at c.self.inside.files.items c.in-Some.index =
    c.index.ensures ∙ get_or_default _ _ _ ([], []) there in
    let bytes : c.as_bytes-bytes.result.now ≡ (file_at c.self.inside.files.items c.in-Some.index).1 =
    c.as_bytes-bytes.ensures ∙ ap (λ f. f.1) file in
    let enough : c.self.inside.left ≤ length c.as_bytes-bytes.result.now = omega (arith, within.1, ap length bytes) in
    ap (λ v. v.rest) (sym c.self.view_is)
    ∙ rest_at-read _ _ _ _ _ _ _ _ c.in-Some.is bytes enough c.copy_front-count.ensures.count c.copy_front-count.ensures.copied
