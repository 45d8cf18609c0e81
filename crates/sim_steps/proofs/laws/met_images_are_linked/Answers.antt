use Rattle.sim_steps.proofs.Linking.{met_images_are_linked}
use Rattle.sim_steps.proofs.laws.met_images_are_linked.Goals as goal

pub returns : goal.returns
returns c = met_images_are_linked
