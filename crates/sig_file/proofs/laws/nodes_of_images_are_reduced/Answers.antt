use Rattle.sig_file.proofs.{length, reduced}
use Rattle.sig_file.proofs.laws.nodes_of_images_are_reduced.Goals as goal

pub returns : goal.returns
returns c = λ image h. reduced (length image.conditions) image.nodes h.nodes
