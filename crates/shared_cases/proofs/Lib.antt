mod Pushed
mod Unused
