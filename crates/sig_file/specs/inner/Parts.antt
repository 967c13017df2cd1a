-- What the parts of an image are.
use Rattle.sig_file.specs.Images.{ImageView}
use Rattle.sig_file.specs.declared.read.Parts.{Parts}

abbrev pub view_of : Parts → ImageView
view_of parts = record {
  signals = parts.signals.items;
  inputs = parts.inputs;
  outputs = parts.outputs;
  conditions = parts.conditions.items;
  memories = parts.memories.items;
  nodes = parts.nodes.items;
  ops = parts.ops.items;
}
