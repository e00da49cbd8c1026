-- a frame's counts and handlers
use Rattle.byte_code.specs.declared.frame.Frame.{Frame}
use Rattle.byte_code.specs.ValidCode.{Bounds}

abbrev pub bounds_of : Frame → Bounds
bounds_of f = record {
  places = f.places;
  operands = f.operands;
  outers = f.outers;
  functions = f.functions;
  names = f.names;
  handlers = f.handlers.now;
}
