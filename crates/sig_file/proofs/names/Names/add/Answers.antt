use Rattle.sig_file.proofs.{btree_map_updates_str, ◌∙◌, ap, is_some, with_name}
use Rattle.sig_file.proofs.names.Names.add.Goals as goal

pub returns : goal.returns
returns c = λ names so_far q.
    let put = btree_map_updates_str c.args.name.now c.args.self.now.set c.insert.new.self _ c.in_ok-insert.ensures.updates q in
    ap is_some put ∙ with_name names c.args.name.now q _ _ (so_far q)
