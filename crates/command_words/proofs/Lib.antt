mod Digits
mod Others
