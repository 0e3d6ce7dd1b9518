-- What is known of the files, stage by stage: each stage holds the one before it.
use Rattle.std.specs.Prelude.{◌≡◌, ◌≤◌, pos, List, [], None, length}
use Rattle.gds_stream.specs.declared.library.Library.{Library}
use Rattle.gds_stream.specs.Contents.{Stream}
use Rattle.gds_flat.specs.Refused.{IsFlattened}
use Rattle.rt_layout.specs.declared.layout.Layout.{Layout}
use Rattle.rt_layout.specs.Covering.{MaskCovers}
use Rattle.rt_rules.specs.Rules.{BreaksNoRule}
use Rattle.rt_sizes.specs.Wishes.{wishes_fault}
use Rattle.rt_strips.specs.Channels.{AreLayoutStrips}
use Rattle.rt_strips.specs.Placed.{Placed}
use Rattle.rt_view.specs.Shapes.{HasSoundShapes}
use Rattle.rt_retarget.specs.declared.inputs.Inputs.{Inputs}
use Rattle.rt_retarget.specs.declared.source.TheConstants.{STRIP_LIMIT}
use Rattle.rt_retarget.specs.Files.{Given, AreFiles, AreBuilt}

-- the tables are valid and of one form, and the sizes file is valid for the target's
pub record AreRead (files : Given) (inputs : Inputs) : Type 0 where
  pub files_are : AreFiles files.stable files.ttable files.sizes inputs.tables.source inputs.tables.target inputs.asked

-- and they ask for what is built, and the source is the stream of a library
pub record IsParsed (files : Given) (inputs : Inputs) (library : Library) : Type 0 where
  pub read : AreRead files inputs
  pub built : AreBuilt inputs.tables.source inputs.asked
  pub stream : Stream files.source library

-- and the library's cell is flattened by the source's table to a layout
pub record IsLaid (files : Given) (inputs : Inputs) (library : Library) (layout : Layout) : Type 0 where
  pub parsed : IsParsed files inputs library
  pub flattened : IsFlattened library.structures inputs.asked.cell inputs.tables.source layout

-- and these are the layout's strips, no more than are taken
pub record IsStripped (files : Given) (inputs : Inputs) (library : Library) (layout : Layout) (strips : List Placed) : Type 0 where
  pub laid : IsLaid files inputs library layout
  pub are_strips : AreLayoutStrips layout inputs.tables.source strips
  pub few : length strips ≤ STRIP_LIMIT

-- and the layout has the shapes of a sound source
pub record IsShaped (files : Given) (inputs : Inputs) (library : Library) (layout : Layout) (strips : List Placed) : Type 0 where
  pub stripped : IsStripped files inputs library layout strips
  pub sound_shapes : HasSoundShapes inputs.tables.source (MaskCovers layout) layout.labels

-- and it breaks no rule of the source's table
pub record IsSound (files : Given) (inputs : Inputs) (library : Library) (layout : Layout) (strips : List Placed) : Type 0 where
  pub shaped : IsShaped files inputs library layout strips
  pub clean : BreaksNoRule (pos 1) inputs.tables.source (MaskCovers layout)

-- and the sizes file asks for no device, as the cell has none
pub record IsWished (files : Given) (inputs : Inputs) (library : Library) (layout : Layout) (strips : List Placed) : Type 0 where
  pub sound : IsSound files inputs library layout strips
  pub no_strays : wishes_fault inputs.asked [] ≡ None
