-- Which records a stream has, in which order. (GDSII Release 6; where skipped records may stand is this project's own.)
use Rattle.gds_records.specs.declared.types.TheConstants.{HEADER, BGNLIB, LIBNAME, UNITS, ENDLIB, BGNSTR, STRNAME, ENDSTR, BOUNDARY, PATH, SREF, AREF, TEXT, LAYER, DATATYPE, WIDTH, XY, ENDEL, SNAME, COLROW, NODE, TEXTTYPE, PRESENTATION, STRING, STRANS, MAG, ANGLE, PATHTYPE, ELFLAGS, NODETYPE, PROPATTR, PROPVALUE, BOX, BOXTYPE, SKIPPED, PLEX, BGNEXTN, ENDEXTN}
use Rattle.gds_grammar.specs.Grammar.{Grammar, any_of, ◌‣◌, ◌∣◌, many, type, maybe}

-- the records that are skipped
unfoldable pub skipped : Grammar
skipped = any_of SKIPPED

-- what may stand at the head of an element
unfoldable pub head : Grammar
head = maybe (type ELFLAGS) ‣ maybe (type PLEX)

-- how a placement turns
unfoldable pub turn : Grammar
turn = type STRANS ‣ maybe (type MAG) ‣ maybe (type ANGLE)

-- a polygon
unfoldable pub boundary : Grammar
boundary = type BOUNDARY ‣ head ‣ type LAYER ‣ type DATATYPE ‣ type XY

-- a path
unfoldable pub path : Grammar
path = type PATH ‣ head ‣ type LAYER ‣ type DATATYPE ‣ maybe (type PATHTYPE) ‣ maybe (type WIDTH) ‣ maybe (type BGNEXTN) ‣ maybe (type ENDEXTN) ‣ type XY

-- a structure that is placed once
unfoldable pub sref : Grammar
sref = type SREF ‣ head ‣ type SNAME ‣ maybe turn ‣ type XY

-- a structure that is placed in columns and rows
unfoldable pub aref : Grammar
aref = type AREF ‣ head ‣ type SNAME ‣ maybe turn ‣ type COLROW ‣ type XY

-- a text
unfoldable pub label : Grammar
label = type TEXT ‣ head ‣ type LAYER ‣ type TEXTTYPE ‣ maybe (type PRESENTATION) ‣ maybe (type PATHTYPE) ‣ maybe (type WIDTH) ‣ maybe turn ‣ type XY ‣ type STRING

-- a node, which gives no element
unfoldable pub node : Grammar
node = type NODE ‣ head ‣ type LAYER ‣ type NODETYPE ‣ type XY

-- a box
unfoldable pub box : Grammar
box = type BOX ‣ head ‣ type LAYER ‣ type BOXTYPE ‣ type XY

-- a property's number and its value
unfoldable pub property : Grammar
property = type PROPATTR ‣ type PROPVALUE

-- one of the seven elements, its properties, and its end
unfoldable pub element : Grammar
element = (boundary ∣ path ∣ sref ∣ aref ∣ label ∣ node ∣ box) ‣ many property ‣ type ENDEL

-- a structure: its name and its elements
unfoldable pub structure : Grammar
structure = type BGNSTR ‣ type STRNAME ‣ many skipped ‣ many element ‣ type ENDSTR

-- the whole stream, but for the zeros behind it
unfoldable pub stream : Grammar
stream = type HEADER ‣ type BGNLIB ‣ many skipped ‣ type LIBNAME ‣ many skipped ‣ type UNITS ‣ many structure ‣ type ENDLIB
