use Rattle.sig_image_command.proofs.{subst, IsImage, have_names}
use Rattle.sig_image_command.proofs.build.bytes_of.Goals as goal

pub image-requires : goal.image-requires
image-requires c = record { names = have_names c.args.plan.now.kernel c.requires.names }

pub returns-in-Ok-write_image-clause-right : goal.returns-in-Ok-write_image-clause-right
returns-in-Ok-write_image-clause-right c = subst IsImage c.in-Ok.ensures.image c.in-Ok.ensures.right
