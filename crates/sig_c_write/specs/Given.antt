-- The names that the step of an image is written with, as they come from outside.
use Rattle.std.specs.Prelude.{◌≡◌, ◌+◌, List, length, take, drop, false}
use Rattle.std.specs.List.{AllByRecursion}
use Rattle.sig_file.specs.Images.{ImageView}
use Rattle.sig_c.specs.SmallC.{Name, Ignored, TheVariable, TheState, TheContext}
use Rattle.sig_c.specs.Written.{Scope}
use Rattle.sig_c_step.specs.Names.{Names, IsOfImage}
use Rattle.sig_c_write.specs.declared.unread.Unread.{Unread}
use Rattle.sig_c_write.specs.declared.unread.Unread.TheVariants as unread

pub record Given : Type 0 where
  pub prefix : Name
  -- of the header that is included
  pub include : Name
  pub inputs : List Name
  pub outputs : List Name
  -- of the signals, then of whether each output comes, and then of what each memory has next
  pub variables : List Name
  pub fields : List Name
  pub unread : List Ignored

abbrev pub ignored_of : Unread → Ignored
ignored_of (unread.Variable x) = TheVariable x
ignored_of unread.State = TheState
ignored_of unread.Context = TheContext

abbrev pub scope_in : Given → Scope
scope_in given = record { in_helper = false; variables = given.variables; fields = given.fields; inputs = given.inputs; outputs = given.outputs }

abbrev pub names_in : ImageView → Given → Names
names_in image given = record {
  prefix = given.prefix;
  inputs = given.inputs;
  outputs = given.outputs;
  signals = take (length image.signals) given.variables;
  comes = take image.outputs (drop (length image.signals) given.variables);
  nexts = drop image.outputs (drop (length image.signals) given.variables);
  fields = given.fields;
  unread = given.unread;
}

-- there are as many of each as the image has
pub record AreGiven (image : ImageView) (given : Given) : Type 0 where
  pub inputs : length given.inputs ≡ image.inputs
  pub outputs : length given.outputs ≡ image.outputs
  pub variables : length given.variables ≡ length image.signals + (image.outputs + length image.memories)
  pub fields : length given.fields ≡ length image.memories
  pub unread : AllByRecursion (IsOfImage image) given.unread
