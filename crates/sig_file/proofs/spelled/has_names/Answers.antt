use Rattle.sig_file.proofs.{◌≡◌, length, true, and_parts, All-contains, AllPass-from_list_all, ◌∙◌, ap, sym, is_name, is_name_length, list_all, is_spelled}
use Rattle.sig_file.proofs.spelled.has_names.Goals as goal

pub returns : goal.returns
returns c = λ given signal there.
    let all = AllPass-from_list_all is_spelled c.args.kernel.now.signals (ap (list_all is_spelled) (sym c.as_slice.ensures) ∙ sym c.are_spelled.ensures ∙ given) in
    let parts = and_parts (is_name_length (length signal.name)) (is_name signal.name) (All-contains (λ x. is_spelled x ≡ true) c.args.kernel.now.signals signal all there) in
    record { long = parts.0; printable = parts.1 }
