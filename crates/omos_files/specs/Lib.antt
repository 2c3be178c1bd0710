pub mod Files
pub mod ScriptedFiles
