pub mod HexText
pub mod AssemblerText
pub mod PrintedUnits
pub mod MapsText
pub mod EventsText
