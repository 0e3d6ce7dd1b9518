-- Files are read in one way, so what is refused at a stage isn't at the next one.
use Rattle.std.proofs.Common.{◌≡◌, ℕ, suc, ℤ, pos, List, [], length, None, refl, subst, ap, sym, ◌∙◌, inl, inr, arith}
use Rattle.rt_cells.specs.Rectangles.{Rectangle, Covers}
use Rattle.rt_layout.specs.declared.layout.Layout.{Layout}
use Rattle.rt_layout.specs.Covering.{MaskCovers}
use Rattle.gds_flat.specs.Laws.{AreAlike}
use Rattle.gds_flat.proofs.Flattening.{one_flat}
use Rattle.gds_flat_laws.proofs.Refusals.{not_refused as flattened_not_refused}
use Rattle.gds_stream.specs.declared.library.Library.{Library}
use Rattle.gds_stream.proofs.Telling.{one_library, nowhere}
use Rattle.rt_keys.specs.declared.error.TableError.TheVariants as table
use Rattle.rt_layout.specs.declared.layout.Label.{Label}
use Rattle.rt_rules.specs.Rules.{BreaksNoRule}
use Rattle.rt_rules.proofs.Alike.{AreAlike as AreAlikeCells, breaks_none_alike}
use Rattle.rt_rules.proofs.First.{first_breaks}
use Rattle.rt_shapes.proofs.Alike.{sound_alike}
use Rattle.rt_shapes.proofs.First.{first_unsound}
use Rattle.rt_sizes.specs.Refusals.{RefusesSizes}
use Rattle.rt_sizes.specs.SizesFile.{sizes_fault}
use Rattle.rt_sizes.specs.Wishes.{wishes_fault}
use Rattle.rt_strips.specs.Channels.{IsChannelCell, IsStripCell, AreLayoutStrips}
use Rattle.rt_strips.specs.Placed.{Placed}
use Rattle.rt_strips.proofs.OneList.{strips_are_one_list}
use Rattle.rt_tables.proofs.Valid.{same_table, not_both}
use Rattle.rt_tech.specs.declared.table.TableCause.{TableCause}
use Rattle.rt_tech.specs.declared.table.Tech.{Tech}
use Rattle.rt_tech.specs.declared.table.Which.TheVariants.{Source, Target}
use Rattle.rt_tech.specs.declared.sizes.Sizes.{Sizes}
use Rattle.rt_tech.specs.Tech.{mask_count}
use Rattle.rt_retarget.specs.declared.inputs.Inputs.{Inputs}
use Rattle.rt_retarget.specs.Files.{Given, AreBuilt}
use Rattle.rt_view.specs.Shapes.{HasSoundShapes}
use Rattle.rt_retarget.specs.Stages.{AreRead, IsParsed, IsLaid, IsStripped}
use Rattle.rt_retarget.specs.Ladder.{NoTableIsntRead, BadTableIsntRead, TwoFormsArentRead, NoSizesArentRead, BadSizesArentRead, MoreIsntParsed, NoStreamIsntParsed, UnflattenedIsntLaid, TooManyIsntStripped, MisshapenIsntShaped, UnsoundIsntSound, StraysArentWished}
use Rattle.rt_retarget.proofs.Assembled.{matched}
use Rattle.rt_retarget.proofs.Readings.{one_reading}

-- no table

pub no_table_read : NoTableIsntRead
no_table_read files inputs Source none read =
    let t = read.files_are.tables.source_read in
    none t.members t.document
no_table_read files inputs Target none read =
    let t = read.files_are.tables.target_read in
    none.1 t.members t.document

pub bad_table_read : BadTableIsntRead
bad_table_read files inputs Source key cause bad read =
    not_both Source files.stable inputs.tables.source (table.BadTable key cause) read.files_are.tables.source_read bad
bad_table_read files inputs Target key cause bad read =
    not_both Target files.ttable inputs.tables.target (table.BadTable key cause) read.files_are.tables.target_read bad.1

pub two_forms_read : TwoFormsArentRead
two_forms_read files inputs key two read =
    let tables = read.files_are.tables in
    let s = same_table Source files.stable two.source_table inputs.tables.source two.source_read tables.source_read in
    let t = same_table Target files.ttable two.target_table inputs.tables.target two.target_read tables.target_read in
    two.parted.apart (rw (s, t) tables.same_form)

pub no_sizes_read : NoSizesArentRead
no_sizes_read files inputs none read =
    let sizes = read.files_are.sizes_read in
    none.no_document sizes.file sizes.document

pub bad_sizes_read : BadSizesArentRead
bad_sizes_read files inputs key cause bad read =
    let tables = read.files_are.tables in
    let t = same_table Target files.ttable bad.target_table inputs.tables.target bad.tables.target_read tables.target_read in
    let sizes = read.files_are.sizes_read in
    let file : bad.faulty.file ≡ sizes.file = cc (bad.faulty.document.reads, sizes.document.reads) in
    let none : sizes_fault bad.target_table bad.faulty.file ≡ None = rw (t, file) sizes.faultless in
    let refused = rw none at bad.faulty.refused in
    absurd cc

-- one reading

same_inputs : (a b : Inputs) → a.tables.source ≡ b.tables.source → a.tables.target ≡ b.tables.target → a.asked ≡ b.asked → a ≡ b
same_inputs a b e f g =
    subst (λ (s : Tech). a ≡ record { tables = record { source = s; target = b.tables.target }; asked = b.asked }) e
    (subst (λ (t : Tech). a ≡ record { tables = record { source = a.tables.source; target = t }; asked = b.asked }) f
    (subst (λ (asked : Sizes). a ≡ record { tables = record { source = a.tables.source; target = a.tables.target }; asked = asked }) g refl))

one_read : (files : Given) (a b : Inputs) → AreRead files a → AreRead files b → a ≡ b
one_read files a b x y =
    let same = one_reading files.stable files.ttable files.sizes a.tables.source a.tables.target a.asked b.tables.source b.tables.target b.asked x.files_are y.files_are in
    same_inputs a b same.source same.target same.sizes

module _ (files : Given) (inputs : Inputs) (library : Library) (parsed : IsParsed files inputs library) where
  same_read : (other : Inputs) → AreRead files other → other ≡ inputs
  same_read other read = one_read files other inputs read parsed.read

  same_library : (l : Library) → IsParsed files inputs l → l ≡ library
  same_library l other = one_library files.source l library other.stream parsed.stream

  same_laid : (other : Inputs) (l : Library) (f : Layout) → IsLaid files other l f → IsLaid files inputs library f
  same_laid other l f laid =
      let e = same_read other laid.parsed.read in
      let here : IsLaid files inputs l f = subst (λ (i : Inputs). IsLaid files i l f) e laid in
      subst (λ (z : Library). IsLaid files inputs z f) (same_library l here.parsed) here

  same_stripped : (other : Inputs) (l : Library) (f : Layout) (t : List Placed) → IsStripped files other l f t → IsStripped files inputs library f t
  same_stripped other l f t is =
      let e = same_read other is.laid.parsed.read in
      let here : IsStripped files inputs l f t = subst (λ (i : Inputs). IsStripped files i l f t) e is in
      subst (λ (z : Library). IsStripped files inputs z f t) (same_library l here.laid.parsed) here

pub more_parsed : MoreIsntParsed
more_parsed files inputs library more parsed =
    let e = same_read files inputs library parsed more.inputs more.read in
    more.more (subst (λ (i : Inputs). AreBuilt i.tables.source i.asked) (sym e) parsed.built)

pub no_stream_parsed : NoStreamIsntParsed
no_stream_parsed files inputs library offset cause is parsed = nowhere files.source library offset cause parsed.stream is.stops

pub unflattened_laid : UnflattenedIsntLaid
unflattened_laid files inputs library layout error no_want is laid =
    let e = same_read files inputs library laid.parsed is.inputs is.parsed.read in
    let here : IsParsed files inputs is.library = subst (λ (i : Inputs). IsParsed files i is.library) e is.parsed in
    let l = same_library files inputs library laid.parsed is.library here in
    flattened_not_refused library.structures inputs.asked.cell inputs.tables.source layout error laid.flattened (rw (l, e) at is.refused) no_want

-- one layout: what masks cover in one of two alike layouts, they cover in the other

covers_too : (f g : Layout) → AreAlike f g → (m : ℕ) (x y : ℤ) → MaskCovers f m x y → MaskCovers g m x y
covers_too f g alike m x y c = subst (λ (r : List Rectangle). Covers r x y) (alike.rectangles m) c

back : (f g : Layout) → AreAlike f g → AreAlike g f
back f g alike = record { labels = sym alike.labels; masks = sym alike.masks; rectangles = λ m. sym (alike.rectangles m) }

channel_cell_too : (f g : Layout) → AreAlike f g → (tech : Tech) (x y : ℤ) → IsChannelCell f tech x y → IsChannelCell g tech x y
channel_cell_too f g alike tech x y c = record {
  gate = c.gate;
  active = c.active;
  is_gate = c.is_gate;
  is_active = c.is_active;
  in_gate = covers_too f g alike c.gate x y c.in_gate;
  in_active = covers_too f g alike c.active x y c.in_active;
}

strip_cell_too : (f g : Layout) → AreAlike f g → (tech : Tech) (m : ℕ) (x y : ℤ) → IsStripCell f tech m x y → IsStripCell g tech m x y
strip_cell_too f g alike tech m x y c = record {
  of_mask_or_channel = elim c.of_mask_or_channel [
    | inl of_mask ↦ inl (of_mask.0, covers_too f g alike m x y of_mask.1)
    | inr channel ↦ inr (
      channel.0,
      record {
        channel = channel.1.channel;
        piece = record {
          nonempty = channel.1.piece.nonempty;
          inside = λ u v h. channel_cell_too f g alike tech u v (channel.1.piece.inside u v h);
          alone = λ u v p q h side d. channel.1.piece.alone u v p q h side (channel_cell_too g f (back f g alike) tech p q d);
        };
        holds = channel.1.holds;
      },
    )
  ];
}

pub strips_too : (f g : Layout) → AreAlike f g → (tech : Tech) (strips : List Placed) → AreLayoutStrips f tech strips → AreLayoutStrips g tech strips
strips_too f g alike tech strips are = record {
  on_masks = are.on_masks;
  nonempty = are.nonempty;
  same_cells = λ m x y h. (
    λ c. (are.same_cells m x y h).0 (strip_cell_too g f (back f g alike) tech m x y c),
    λ c. strip_cell_too f g alike tech m x y ((are.same_cells m x y h).1 c),
  );
  once = are.once;
  whole_runs = are.whole_runs;
  unstacked = are.unstacked;
  in_order = are.in_order;
}

same_layout : (files : Given) (inputs : Inputs) (library : Library) (f g : Layout) → IsLaid files inputs library f → IsLaid files inputs library g → AreAlike f g
same_layout files inputs library f g a b = one_flat library.structures inputs.asked.cell inputs.tables.source f g a.flattened b.flattened

-- one list of strips
same_strips : (files : Given) (inputs : Inputs) (library : Library) (f g : Layout) (s t : List Placed) → IsLaid files inputs library f → IsLaid files inputs library g
    → AreLayoutStrips f inputs.tables.source s → AreLayoutStrips g inputs.tables.source t → s ≡ t
same_strips files inputs library f g s t a b of_f of_g =
    strips_are_one_list (IsStripCell g inputs.tables.source) (suc (mask_count inputs.tables.source)) s t (strips_too f g (same_layout files inputs library f g a b) inputs.tables.source s of_f) of_g

pub too_many_stripped : TooManyIsntStripped
too_many_stripped files inputs library layout strips count is stripped =
    let parsed = stripped.laid.parsed in
    let laid = same_laid files inputs library parsed is.inputs is.library is.layout is.laid in
    let e = same_read files inputs library parsed is.inputs is.laid.parsed.read in
    let are : AreLayoutStrips is.layout inputs.tables.source is.many.strips =
    subst (λ (i : Inputs). AreLayoutStrips is.layout i.tables.source is.many.strips) e is.many.strips_are in
    let same = same_strips files inputs library is.layout layout is.many.strips strips laid stripped.laid are stripped.are_strips in
    let many = is.many.beyond in
    let few = stripped.few in
    let count : length is.many.strips ≡ length strips = ap length same in
    omega (arith, many, few, count)

-- so they cover the same cells
pub alike_cells : (f g : Layout) → AreAlike f g → (m : ℕ) → AreAlikeCells (MaskCovers f m) (MaskCovers g m)
alike_cells f g alike m = record { to = covers_too f g alike m; from = covers_too g f (back f g alike) m }

pub misshapen_shaped : MisshapenIsntShaped
misshapen_shaped files inputs library layout strips shape rect is shaped =
    let parsed = shaped.stripped.laid.parsed in
    let laid = same_laid files inputs library parsed is.inputs is.library is.layout is.stripped.laid in
    let e = same_read files inputs library parsed is.inputs is.stripped.laid.parsed.read in
    let alike = same_layout files inputs library layout is.layout shaped.stripped.laid laid in
    let here = sound_alike inputs.tables.source layout.labels (MaskCovers layout) (MaskCovers is.layout) (alike_cells layout is.layout alike) shaped.sound_shapes in
    let labels : HasSoundShapes inputs.tables.source (MaskCovers is.layout) is.layout.labels =
    subst (λ (labels : List Label). HasSoundShapes inputs.tables.source (MaskCovers is.layout) labels) alike.labels here in
    first_unsound is.inputs.tables.source (MaskCovers is.layout) is.layout.labels shape rect is.first
    (subst (λ (i : Inputs). HasSoundShapes i.tables.source (MaskCovers is.layout) is.layout.labels) (sym e) labels)

pub unsound_sound : UnsoundIsntSound
unsound_sound files inputs library layout strips rule p q found needed is sound =
    let stripped = sound.shaped.stripped in
    let parsed = stripped.laid.parsed in
    let other = is.shaped.stripped.laid in
    let laid = same_laid files inputs library parsed is.inputs is.library is.layout other in
    let e = same_read files inputs library parsed is.inputs other.parsed.read in
    let alike = same_layout files inputs library layout is.layout stripped.laid laid in
    let pairs = (matched files inputs parsed.read).source.pairs in
    let none = breaks_none_alike (pos 1) inputs.tables.source pairs (MaskCovers layout) (MaskCovers is.layout) (λ m h. alike_cells layout is.layout alike m) sound.clean in
    first_breaks (pos 1) is.inputs.tables.source (MaskCovers is.layout) rule p q found needed is.broken
    (subst (λ (i : Inputs). BreaksNoRule (pos 1) i.tables.source (MaskCovers is.layout)) (sym e) none)

-- sizes without a fault aren't refused
not_refused : (asked : Sizes) (key : List ℕ) (cause : TableCause) → RefusesSizes (wishes_fault asked []) (table.BadSizes key cause) → wishes_fault asked [] ≡ None → ⊥
not_refused asked key cause refused none = let told = rw none at refused in cc

pub strays_wished : StraysArentWished
strays_wished files inputs library layout strips key cause is wished =
    let parsed = wished.sound.shaped.stripped.laid.parsed in
    let e = same_read files inputs library parsed is.inputs is.sound.shaped.stripped.laid.parsed.read in
    not_refused is.inputs.asked key cause is.refused (subst (λ (i : Inputs). wishes_fault i.asked [] ≡ None) (sym e) wished.no_strays)
