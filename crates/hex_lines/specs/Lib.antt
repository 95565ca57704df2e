pub mod HexLines
pub mod RecordLine
